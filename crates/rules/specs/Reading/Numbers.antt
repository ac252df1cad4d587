-- Document 01, "Lines": a word read as a number, by the grammar, and its exact value in units of 10 to the -places, within a limit.
use Rattle.std.specs.Prelude.{ℕ, ◌*◌, ◌/◌, ◌%◌, Bool, false, cond, ◌&&◌, ◌||◌, List, [], ◌∷◌, eqb, ltb, Err, None, Ok, Option, Some}
use Rattle.rules.specs.Reading.Lines.{digit, plus_byte, minus_byte, point_byte, e_byte, run, after, starts}
use Rattle.rules.specs.Reading.Numerals.{Exponent, Numeral, digits, signed, over, under}
use Rattle.rules.specs.declared.NumberFault.TheVariants.{Beyond, Finer, Malformed}
use Rattle.rules.specs.Results.{Number}

-- what stands after an optional sign
unfoldable pub unsigned : List ℕ → List ℕ
unsigned [] = []
unsigned (b ∷ rest) = cond (plus_byte b || minus_byte b) rest (b ∷ rest)

-- nothing; or e or E, an optional sign, digits
unfoldable pub exponent_of : List ℕ → Option Exponent
exponent_of [] = Some (record { down = false; power = [] })
exponent_of (b ∷ rest) =
    cond (e_byte b && digits (unsigned rest)) (Some (record { down = starts minus_byte rest; power = unsigned rest })) None

-- a sign, whole digits and digits after the point, where those that must be there are, with an exponent
abbrev pub assemble : Bool → Bool → List ℕ → List ℕ → Option Exponent → Option Numeral
assemble there negative whole fraction None = None
assemble there negative whole fraction (Some e) =
    cond there (Some (record { negative = negative; whole = whole; fraction = fraction; exponent = e })) None

-- after the whole digits: a point, digits, if any, and an exponent, with a digit before the point or after it; or the exponent at once, after at least
-- one whole digit
unfoldable pub numeral_with : Bool → List ℕ → List ℕ → Option Numeral
numeral_with negative whole [] = assemble (starts digit whole) negative whole [] (exponent_of [])
numeral_with negative whole (b ∷ rest) =
    cond (point_byte b)
    (assemble (starts digit whole || starts digit rest) negative whole (run digit rest) (exponent_of (after digit rest)))
    (assemble (starts digit whole) negative whole [] (exponent_of (b ∷ rest)))

-- an optional sign, whole digits, and what follows them
unfoldable pub numeral_of : List ℕ → Option Numeral
numeral_of w = numeral_with (starts minus_byte w) (run digit (unsigned w)) (after digit (unsigned w))

-- p/q with a sign: beyond the limit, or that whole number, or no whole number
unfoldable pub settle : ℕ → Bool → ℕ → ℕ → Number
settle limit negative p q = cond (ltb (limit * q) p) (Err Beyond) (cond (eqb (p % q) 0) (Ok (signed negative (p / q))) (Err Finer))

abbrev pub value_of : ℕ → ℕ → Option Numeral → Number
value_of places limit None = Err Malformed
value_of places limit (Some n) = settle limit n.negative (over places n) (under n)

-- what a word says as a number
unfoldable pub number_of : ℕ → ℕ → List ℕ → Number
number_of places limit w = value_of places limit (numeral_of w)
