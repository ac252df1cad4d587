-- The longest text of a number of ten-millionths in 64 bits: a sign, 12 digits, a point and 7 places.
use Prim.Native.Nat.{◌≤◌}
use native.Mathlib.Omega.{arith}
use lib.IntN.{ℤ, pos, negsuc, nat_abs}
use lib.ListN.{length}
use mir.Syntax.{w64}
use mir.Val.{SFits}
use Rattle.rules.specs.Units.{sample_places}
use Rattle.rules.specs.Decimals.{decimals_of}
use Rattle.rules.proofs.Decimals.{decimals-within}

held-most : (z : ℤ) → SFits w64 z → nat_abs z ≤ 9_223_372_036_854_775_808
held-most (pos n) f = omega (arith, f.sfits)
held-most (negsuc n) f = omega (arith, f.sfits)

pub longest : (z : ℤ) → SFits w64 z → length (decimals_of sample_places z) ≤ 21
longest z f = decimals-within 11 sample_places z (omega (arith, held-most z f))
