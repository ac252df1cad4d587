-- The decimals of rest / unit after the point, by long division: one digit after another, as long as something is left, and at most so many.
use Rattle.std.specs.Prelude.{ℕ, ◌*◌, ◌/◌, ◌%◌, ◌^◌, ◌≤◌, ◌<◌, ◌≡◌, true, ltb}
use Rattle.exact.specs.declared.decimals.Places.{Places}

-- what is left after so many digits
abbrev pub left : ℕ → ℕ → ℕ → ℕ
left rest unit count = rest * 10 ^ count % unit

-- the digits are those of the quotient, something was left before the last of them, and where something is left still, there are as many as may be
pub record LongDivision (rest unit most : ℕ) (r : Places) : Type 0 where
  pub within : r.count ≤ most
  pub digits : r.digits ≡ rest * 10 ^ r.count / unit
  pub more : r.more ≡ ltb 0 (left rest unit r.count)
  pub fewest : (k : ℕ) → k < r.count → 0 < left rest unit k
  pub all : r.more ≡ true → r.count ≡ most
