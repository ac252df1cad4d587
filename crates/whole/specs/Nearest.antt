-- The code nearest to a value s / den, and a weighed sum of values.
use Rattle.std.specs.Prelude.{◌≡◌, List, [], ◌∷◌, ℕ, ◌+◌, ◌*◌, ◌/◌, ◌≤◌, min, T, ℤ, pos, nat_abs, ◌+ℤ◌, ◌-ℤ◌, ◌*ℤ◌, ◌<ℤ◌}
use Rattle.std.specs.Int.Signed.{non_neg}
use Rattle.whole.specs.Integers.{up}

-- ---- the nearest code

-- |s − n|
abbrev pub dist : ℤ → ℕ → ℕ
dist s n = nat_abs (s -ℤ pos n)

-- r is a code from 0 to m, none of them is nearer to s / den, and of equally near ones r is the greatest
pub record Nearest (s : ℤ) (den m r : ℕ) : Type 0 where
  pub top : r ≤ m
  pub least : (k : ℕ) → k ≤ m → dist s (r * den) ≤ dist s (k * den)
  pub greatest : (k : ℕ) → k ≤ m → dist s (r * den) ≡ dist s (k * den) → k ≤ r

-- the whole number nearest to n / den, the greater of two equally near
abbrev pub rounded : ℕ → ℕ → ℕ
rounded n den = (2 * n + den) / (2 * den)

-- how it is computed
unfoldable pub code : ℤ → ℕ → ℕ → ℕ
code s den m = min m (rounded (up s) den)

-- ---- a weighed sum: a list of weights and values

-- what the weights add up to
abbrev pub weights : List (ℤ × ℤ) → ℤ
weights [] = pos 0
weights (x ∷ xs) = x.0 +ℤ weights xs

-- the sum of weight times value
abbrev pub weighed_sum : List (ℤ × ℤ) → ℤ
weighed_sum [] = pos 0
weighed_sum (x ∷ xs) = x.0 *ℤ x.1 +ℤ weighed_sum xs

-- no weight is below 0
abbrev pub Unsigned : List (ℤ × ℤ) → Type 0
Unsigned [] = Unit {0}
Unsigned (x ∷ xs) = T (non_neg x.0) × Unsigned xs

-- each value whose weight is above 0
abbrev pub Carrying : (ℤ → Type 0) → List (ℤ × ℤ) → Type 0
Carrying P [] = Unit {0}
Carrying P (x ∷ xs) = (pos 0 <ℤ x.0 → P x.1) × Carrying P xs
