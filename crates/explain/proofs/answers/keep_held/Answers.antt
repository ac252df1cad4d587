use Rattle.std.specs.Prelude.{is_ok}
use mathlib.Core.Path.{ap}
use Rattle.rules.proofs.Answers.{finds-is}
use Rattle.explain.specs.Questions.{kept_as}
use Rattle.explain.proofs.Ends.{ends-refused, ends-shown}
use Rattle.explain.proofs.answers.keep_held.Goals as goal

pub returns-in-Err : goal.returns-in-Err
unfolding kept_as
returns-in-Err c =
    ends-refused kept_as (finds-is c.first_half.ensures) c.refuse.ensures (ap kept_as c.in-Err.is)

pub returns-in-Ok : goal.returns-in-Ok
unfolding kept_as
returns-in-Ok c =
    ends-shown kept_as (finds-is c.first_half.ensures) (is_ok c.show_line-written.result) c.done_if.result c.done_if.ensures (ap kept_as c.in-Ok.is)
