-- The bits of numbers taken together, by `or`, are at least the bits of each. So where they read as a number that is not negative, none of the numbers is further from 0 than it.
use Prim.Native.Nat.{ℕ, ◌+◌, ◌≤◌, ◌<◌}
use mathlib.Core.Path.{◌≡◌}
use mathlib.Core.Bool.{true, false≢true}
use mathlib.Core.List.{List}
use native.Mathlib.Decide.{dec_lt}
use native.Mathlib.Nat.{le_refl}
use native.Mathlib.Omega.{arith}
use borrow.Author.Count.{below_more}
use borrow.Author.Tests.{ltb-true, le-ltb}
use lib.Bits.{bit_or, or_add_and, and_le_l, and_le_r}
use lib.IntN.{ℤ, pos, negsuc, nat_abs}
use lib.ListN.{length, get_or}
use lib.Signed.{lt_z, le_z}
use mir.Syntax.{w64}
use mir.Val.{SFits, to_z, of_z}
use mir.ValLaws.{to_z_pos}
use Rattle.rules.specs.Units.{sample_limit}
use Rattle.rules.specs.Descriptions.{samples_fit}
use Rattle.rules.proofs.Sound.{each-fit}

-- ---- bits

le-or-left : (a b : ℕ) → a ≤ bit_or a b
le-or-left a b = omega (arith, or_add_and a b, and_le_r a b)

le-or-right : (a b : ℕ) → b ≤ bit_or a b
le-or-right a b = omega (arith, or_add_and a b, and_le_l a b)

-- where the sign bit is not set, the bits are the number
abs-bits : (z : ℤ) → SFits w64 z → of_z w64 z < 9_223_372_036_854_775_808 → nat_abs z ≤ of_z w64 z
abs-bits (pos n) f h = le_refl n
abs-bits (negsuc n) f h = absurd (omega (arith, f.sfits, h))

-- bits that pass the tests `0 <= any` and `any < limit` are a number below the limit
below : (any limit : ℕ) → le_z (pos 0) (to_z w64 any) ≡ true → lt_z (to_z w64 any) (pos limit) ≡ true → (any < 9_223_372_036_854_775_808) × (any < limit)
below any limit e l = by (dec_lt any 9_223_372_036_854_775_808)
  where
    by : Dec (any < 9_223_372_036_854_775_808) → (any < 9_223_372_036_854_775_808) × (any < limit)
    by (yes h) = (h, ltb-true any limit (rw (to_z_pos w64 any h) at l))
    by (no h) = absurd (false≢true (rw (le-ltb any 9_223_372_036_854_775_808 (omega arith)) at e))

-- ---- the numbers passed

-- `any` has the bits of the first i numbers
abbrev pub Together : List ℤ → ℕ → ℕ → Type 0
Together xs i any = any < 9_223_372_036_854_775_808 → (k : ℕ) → k < i → nat_abs (get_or xs k (pos 0)) ≤ any

pub none-together : (xs : List ℤ) → Together xs 0 0
none-together xs h k l = absurd (omega arith)

-- one number more
pub together-more : (xs : List ℤ) (i any : ℕ) → let z = get_or xs i (pos 0) in SFits w64 z → Together xs i any → Together xs (i + 1) (bit_or any (of_z w64 z))
together-more xs i any f t h =
    let b = of_z w64 (get_or xs i (pos 0)) in
    below_more (λ k. nat_abs (get_or xs k (pos 0)) ≤ bit_or any b) i
    (λ k l. omega (arith, t (omega (arith, le-or-left any b, h)) k l, le-or-left any b))
    (omega (arith, abs-bits (get_or xs i (pos 0)) f (omega (arith, le-or-right any b, h)), le-or-right any b))

-- all are passed, and the limit is one that samples keep
pub together-fit : (xs : List ℤ) (i any limit : ℕ) → length xs ≤ i → limit ≤ sample_limit → Together xs i any
    → le_z (pos 0) (to_z w64 any) ≡ true → lt_z (to_z w64 any) (pos limit) ≡ true → samples_fit xs ≡ true
together-fit xs i any limit all most t e l =
    let (h, less) = below any limit e l in
    each-fit xs (λ k r. omega (arith, t h k (omega arith), less, most))
