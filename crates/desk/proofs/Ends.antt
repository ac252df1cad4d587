-- Work that was written ends as it should, and other work has failed.
use mathlib.Core.Path.{◌≡◌}
use mathlib.Core.Logic.{inl, inr}
use mathlib.Core.Bool.{Bool, true, false, cond}
use Rattle.desk.specs.Outcomes.{EndsAs}
use Rattle.desk.specs.declared.outcomes.Outcome.{Outcome}
use Rattle.desk.specs.declared.outcomes.Outcome.TheVariants.{Failed}

pub ends_as : (written : Bool) (o r : Outcome) → r ≡ cond written o Failed → EndsAs o r
ends_as true o r e = inl e
ends_as false o r e = inr e
