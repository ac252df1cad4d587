use mathlib.Core.Path.{◌≡◌, refl, ap, ◌∙◌}
use mathlib.Core.Bool.{Bool, true, false, cond}
use Rattle.rules.specs.Reading.Judge.{Fault, first, head_fault, need, order_fault}
use Rattle.rules.specs.declared.Refusal.TheVariants.{TooManyRows}
use Rattle.reading.specs.View.{view}
use Rattle.reading.proofs.checks.data_fault.Goals as goal
use Rattle.std.specs.Prelude.{None, Some}

-- One row more where rows are left to come, and else 14.
room-needed : (t : Bool) → ◌≡◌ {A = Fault} (cond t None (Some TooManyRows)) (need t TooManyRows None)
unfolding need
room-needed true = refl
room-needed false = refl

pub returns : goal.returns
unfolding order_fault
returns c =
    let s = c.before in
    c.by_rows.ensures ∙ ap (first (head_fault s.args.places (view s.args.st))) (room-needed _)
