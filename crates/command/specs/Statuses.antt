-- The number that the command ends with.
use Rattle.std.specs.Prelude.{ℕ, ◌≡◌}
use Rattle.desk.specs.Outcomes.{status_of}
use Rattle.desk.specs.declared.outcomes.Outcome.{Outcome}

-- the status of the outcome of what was asked for
pub record Ends (status : ℕ) : Type 0 where
  pub outcome : Outcome
  pub so : status ≡ status_of outcome
