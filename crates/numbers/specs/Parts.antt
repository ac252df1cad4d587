-- What stands where the grammar found a number's parts.
use Rattle.std.specs.Prelude.{ℕ, ◌-◌, ◌≤◌, Bool, List, length, take, drop, Option, None, Some}
use Rattle.rules.specs.Reading.Numerals.{Exponent, Numeral}
use Rattle.numbers.specs.declared.Parts.{Parts}
use Rattle.numbers.specs.declared.PowerParts.{PowerParts}

-- the bytes from place a up to place e
abbrev pub part : List ℕ → ℕ → ℕ → List ℕ
part w a e = take (e - a) (drop a w)

abbrev pub numeral : Bool → List ℕ → List ℕ → Bool → List ℕ → Numeral
numeral negative whole fraction down power =
    record { negative = negative; whole = whole; fraction = fraction; exponent = record { down = down; power = power } }

-- the exponent that stands there
abbrev pub exponent_at : List ℕ → Option PowerParts → Option Exponent
exponent_at e None = None
exponent_at e (Some p) = Some (record { down = p.down; power = drop p.start e })

-- the numeral that stands there
abbrev pub numeral_at : List ℕ → Option Parts → Option Numeral
numeral_at w None = None
numeral_at w (Some p) =
    Some (numeral p.negative (part w p.whole p.point) (part w p.fraction p.end) p.down (drop p.power w))

-- places in the word, in order
pub record Placed (w : List ℕ) (p : Parts) : Type 0 where
  pub whole_in : (p.whole ≤ p.point) × (p.point ≤ length w)
  pub fraction-in : (p.fraction ≤ p.end) × (p.end ≤ length w)
  pub power_in : p.power ≤ length w
