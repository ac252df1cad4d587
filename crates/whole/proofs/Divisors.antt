-- Euclid's steps: one step leads to the same divisor, and where nothing is left it has been found.
use Prim.Native.Nat.{ℕ, zero, suc, ◌%◌, ◌≤◌, ◌<◌}
use mathlib.Core.Path.{◌≡◌, refl}
use native.Mathlib.Nat as NatL
use native.Mathlib.Omega.{arith}
use Rattle.whole.specs.Divisors.{euclid, gcd}

-- any two counts of steps that are enough
enough : (j k x y : ℕ) → y ≤ j → y ≤ k → euclid j x y ≡ euclid k x y
unfolding euclid
enough zero zero x y h g = refl
enough zero (suc k) x zero h g = refl
enough zero (suc k) x (suc y) h g = absurd (omega arith)
enough (suc j) zero x zero h g = refl
enough (suc j) zero x (suc y) h g = absurd (omega arith)
enough (suc j) (suc k) x zero h g = refl
enough (suc j) (suc k) x (suc y) h g =
    let less = NatL.mod-lt x {m = suc y} (omega arith) in
    enough j k (suc y) (x % suc y) (omega arith) (omega arith)

pub gcd-step : (x y : ℕ) → 0 < y → gcd x y ≡ gcd y (x % y)
unfolding euclid
gcd-step x zero h = absurd (omega arith)
gcd-step x (suc y) h =
    let less = NatL.mod-lt x {m = suc y} (omega arith) in
    enough y (x % suc y) (suc y) (x % suc y) (omega arith) (NatL.le_refl _)

pub gcd-end : (x : ℕ) → gcd x 0 ≡ x
unfolding euclid
gcd-end x = refl
