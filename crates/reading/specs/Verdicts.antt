-- A line's verdict as the rules' verdict.
use Rattle.std.specs.Prelude.{Result, Ok, Err}
use Rattle.rules.specs.Reading.Judge.{go, refuse, Verdict}
use Rattle.rules.specs.declared.Refusal.{Refusal}
use Rattle.reading.specs.View.{view}
use Rattle.reading.specs.declared.state.State.{State}

abbrev pub judged_of : Result State Refusal → Verdict
judged_of (Ok after) = go (view after)
judged_of (Err r) = refuse r
