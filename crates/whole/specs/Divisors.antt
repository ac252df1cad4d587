-- The greatest common divisor of two numbers, by Euclid.
use Rattle.std.specs.Prelude.{ℕ, zero, suc, ◌%◌}

-- in at most so many steps: of x and 0 it is x, of x and another number that of this number and what it leaves of x
unfoldable pub euclid : ℕ → ℕ → ℕ → ℕ
euclid zero x y = x
euclid (suc steps) x zero = x
euclid (suc steps) x (suc y) = euclid steps (suc y) (x % suc y)

-- what is left is less at every step, so that y steps are enough
abbrev pub gcd : ℕ → ℕ → ℕ
gcd x y = euclid y x y
