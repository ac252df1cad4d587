-- The status of a program for each way in which its work can end.
use Rattle.std.specs.Prelude.{ℕ, ◌≡◌, ◌⊎◌, cond, ltb, Err, Ok}
use Rattle.desk.specs.declared.loading.NoTable.{NoTable}
use Rattle.desk.specs.declared.loading.NoTable.TheVariants as N
use Rattle.desk.specs.declared.outcomes.Outcome.{Outcome}
use Rattle.desk.specs.declared.outcomes.Outcome.TheVariants.{Done, Refused, Failed}
use Rattle.rules.specs.Results.{Read}

-- 0 done, 1 refused, 2 a wrong call or a failure of the system
unfoldable pub status_of : Outcome → ℕ
status_of Done = 0
status_of Refused = 1
status_of Failed = 2

-- of two ends of one work the greater status counts
unfoldable pub worse_of : Outcome → Outcome → Outcome
worse_of a b = cond (ltb (status_of a) (status_of b)) b a

-- a file that is accepted is done with
unfoldable pub outcome_of : Read → Outcome
outcome_of (Ok d) = Done
outcome_of (Err x) = Refused

-- where there is no table, its file is refused or could not be read
unfoldable pub ends_without : NoTable → Outcome
ends_without N.Refused = Refused
ends_without N.Unread = Failed

-- work ends as it should, unless what it says could not be written
abbrev pub EndsAs : Outcome → Outcome → Type 0
EndsAs o r = (r ≡ o) ⊎ (r ≡ Failed)
