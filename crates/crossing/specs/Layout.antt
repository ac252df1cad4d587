-- The number of an answer that a refusal may stand for; and an answer whose table's rows can be counted.
use Rattle.std.specs.Prelude.{ℕ, ◌≡◌, true, Result, Err, Ok}
use Rattle.rules.specs.Units.{in_range}
use Rattle.rules.specs.Answers.{refusal_number}
use Rattle.rules.specs.declared.Refusal.{Refusal}
use Rattle.rules.specs.Results.{Read}

-- look_number, first_number, second_number, picture_number and write_number of rules, each for what it accepts
abbrev pub number : {A : Type 0} → Result A Refusal → ℕ
number (Ok _) = 0
number (Err r) = refusal_number r

-- the N of an accepted file is in range
abbrev pub Countable : Read → Type 0
Countable (Ok d) = in_range d.kind d.n ≡ true
Countable (Err x) = Unit {0}
