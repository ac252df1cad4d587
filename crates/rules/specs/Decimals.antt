-- Numbers as text: decimal digits, a sign, and places after a point, with the fewest characters.
use Rattle.std.specs.Prelude.{ℕ, zero, suc, ◌+◌, ◌/◌, ◌%◌, ◌^◌, cond, List, [], ◌∷◌, ◌++◌, ltb, eqb, ℤ, pos, negsuc, nat_abs}

-- the byte of a digit
abbrev pub digit_byte : ℕ → ℕ
digit_byte d = 48 + d

-- the digits of n, with at most `more` before the last
unfoldable pub decimal_in : ℕ → ℕ → List ℕ
decimal_in zero n = digit_byte n ∷ []
decimal_in (suc more) n = cond (ltb n 10) (digit_byte n ∷ []) (decimal_in more (n / 10) ++ (digit_byte (n % 10) ∷ []))

-- a natural number in decimal digits, without leading zeros; it has at most n before the last
unfoldable pub decimal : ℕ → List ℕ
decimal n = decimal_in n n

-- a number below 0 has - before it
unfoldable pub sign : ℤ → List ℕ
sign (pos n) = []
sign (negsuc n) = 45 ∷ []

-- a whole number
unfoldable pub signed_decimal : ℤ → List ℕ
signed_decimal z = sign z ++ decimal (nat_abs z)

-- ---- places after a point

-- the digits after the point of so many units, 10 ^ places of which are 1; zeros at the end are left out
unfoldable pub places_of : ℕ → ℕ → List ℕ
places_of zero units = []
places_of (suc places) units = cond (eqb units 0) [] (digit_byte (units / 10 ^ places) ∷ places_of places (units % 10 ^ places))

-- the point stands only before a digit
unfoldable pub after_point : ℕ → ℕ → List ℕ
after_point places units = cond (eqb units 0) [] (46 ∷ places_of places units)

-- so many units in plain decimals, as -0.5, 1000 and 0.0000001
unfoldable pub decimals_of : ℕ → ℤ → List ℕ
decimals_of places z = sign z ++ (decimal (nat_abs z / 10 ^ places) ++ after_point places (nat_abs z % 10 ^ places))
