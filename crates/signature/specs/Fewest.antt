-- Document 02, Req 02: the fewest characters for a number, without an exponent and with a 0 before the point, as a property.
use Rattle.std.specs.Prelude.{ℕ, ◌≤◌, ◌<◌, ◌≡◌, List, [], ℤ, pos, ◌*ℤ◌, length}
use Rattle.rules.specs.Reading.Numerals.{Numeral, Spells, over, signed, under}

-- a word without an exponent and with a digit before the point, whose value is exactly v units
pub record PlainWord (places : ℕ) (w : List ℕ) (v : ℤ) : Type 0 where
  pub numeral : Numeral
  pub spelt : Spells w numeral
  pub no_exponent : numeral.exponent.power ≡ []
  pub whole_there : 0 < length numeral.whole
  pub equal : pos (under numeral) *ℤ v ≡ signed numeral.negative (over places numeral)

-- and no such word is shorter
pub record Fewest (places : ℕ) (w : List ℕ) (v : ℤ) : Type 0 where
  pub plain : PlainWord places w v
  pub shortest : (u : List ℕ) → PlainWord places u v → length w ≤ length u
