-- A number's value by a cut of its digits: those before the unit's point are the quotient, those behind it the rest.
use Rattle.std.specs.Prelude.{ℕ, ◌+◌, ◌-◌, ◌≤◌, min, ◌≡◌, Bool, true, cond, List, eqb, ltb, length, Err, Ok}
use Rattle.rules.specs.Reading.Lines.{line_limit, digit, every}
use Rattle.rules.specs.Reading.Numerals.{signed}
use Rattle.rules.specs.declared.NumberFault.TheVariants.{Beyond, Finer}
use Rattle.rules.specs.Results.{Number}

-- the greatest limit, and the most places, that the code serves
abbrev pub most_limit : ℕ
most_limit = 100_000_000_000_000_000

abbrev pub most_places : ℕ
most_places = 1000

-- past it a greater exponent changes no answer: every digit stands on one side of the unit's point, and a quotient that is not 0 is past every limit
abbrev pub exponent_cap : ℕ
exponent_cap = 2000

-- what a value is asked of: two runs of digits within a line, and places and a limit that are served
pub record Served (whole fraction : List ℕ) (places limit : ℕ) : Type 0 where
  pub whole_short : length whole ≤ line_limit
  pub fraction_short : length fraction ≤ line_limit
  pub whole_digits : every digit whole ≡ true
  pub fraction_digits : every digit fraction ≡ true
  pub few_places : places ≤ most_places
  pub low-limit : limit ≤ most_limit

-- a number kept at limit + 1 once it is past the limit
abbrev pub kept : ℕ → ℕ → ℕ
kept limit n = min (limit + 1) n

-- how many digits stand before the unit's point: the whole ones and those of the places, moved by an exponent x
abbrev pub cut_of : ℕ → ℕ → Bool → ℕ → ℕ
cut_of whole places down x = cond down (whole + places - x) (whole + places + x)

-- what a quotient and a rest say: beyond the limit, or that whole number, or no whole number
unfoldable pub answer : ℕ → Bool → ℕ → ℕ → Number
answer limit negative q r = cond (ltb limit q) (Err Beyond) (cond (eqb r 0) (Ok (signed negative q)) (cond (eqb q limit) (Err Beyond) (Err Finer)))
