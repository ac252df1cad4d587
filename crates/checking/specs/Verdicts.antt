-- How the check of a file ends, by what was fetched of it.
use Rattle.std.specs.Prelude.{ℕ, ◌≡◌, List, take, Result, Ok, Err}
use Rattle.rules.specs.Reading.{check}
use Rattle.desk.specs.Outcomes.{outcome_of, EndsAs}
use Rattle.desk.specs.declared.loading.Unfetched.{Unfetched}
use Rattle.desk.specs.declared.outcomes.Outcome.{Outcome}
use Rattle.desk.specs.declared.outcomes.Outcome.TheVariants as O

-- the first bytes are judged; where there are none, the work has failed
abbrev pub EndsBy : List ℕ → Result ℕ Unfetched → Outcome → Type 0
EndsBy file (Ok n) r = EndsAs (outcome_of (check (take n file))) r
EndsBy file (Err why) r = r ≡ O.Failed
