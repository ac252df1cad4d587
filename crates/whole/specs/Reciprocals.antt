-- A number that others are divided by again and again, with its reciprocal: what is made of it once, and what may be divided by it so.
use Rattle.std.specs.Prelude.{ℕ, ◌+◌, ◌-◌, ◌*◌, ◌/◌, ◌≤◌, ◌<◌, ◌≡◌}
use Rattle.whole.specs.declared.reciprocal.Divisor.{Divisor}
use Rattle.whole.specs.declared.reciprocal.Reciprocal.{Reciprocal}
use Rattle.whole.specs.declared.reciprocal.WideReciprocal.{WideReciprocal}

-- ---- rounded down: the quotient is a guess or one more

-- how often it goes into 2 ^ 63
abbrev pub divisor_of : ℕ → Divisor
divisor_of k = record { by = k; reciprocal = 9_223_372_036_854_775_808 / k }

-- the divisor is at least 2 ^ 24, and n below 2 ^ 62 and at most 2 ^ 23 times it
pub record Dividable (n : ℕ) (d : Divisor) : Type 0 where
  pub made : d.reciprocal ≡ 9_223_372_036_854_775_808 / d.by
  pub least : 16_777_216 ≤ d.by
  pub most : n < 4_611_686_018_427_387_904
  pub ratio : n ≤ 8_388_608 * d.by

-- ---- rounded up: the quotient is the upper half of one product

-- 2 ^ 64 over it, rounded up
abbrev pub reciprocal_of : ℕ → Reciprocal
reciprocal_of k = record { by = k; times = 18_446_744_073_709_551_615 / k + 1 }

-- how much k times that is above 2 ^ 64
abbrev pub excess : ℕ → ℕ
excess k = (18_446_744_073_709_551_615 / k + 1) * k - 18_446_744_073_709_551_616

-- what rounding up adds to the n-fold does not come to a whole
pub record Divides (r : Reciprocal) (n : ℕ) : Type 0 where
  pub some : 0 < r.by
  pub above : 18_446_744_073_709_551_616 ≤ r.times * r.by
  pub near : n * (r.times * r.by - 18_446_744_073_709_551_616) < 18_446_744_073_709_551_616

-- ---- the same with 23 bits more

abbrev pub two_to87 : ℕ
two_to87 = 154_742_504_910_672_534_362_390_528

-- 2 ^ 87 over it, rounded down, and 1
abbrev pub wide_of : ℕ → WideReciprocal
wide_of k = record { by = k; times = two_to87 / k + 1 }

-- what the 1 adds to the n-fold does not come to a whole
pub record WideDivides (r : WideReciprocal) (n : ℕ) : Type 0 where
  pub some : 0 < r.by
  pub above : two_to87 ≤ r.times * r.by
  pub near : n * (r.times * r.by - two_to87) < two_to87
