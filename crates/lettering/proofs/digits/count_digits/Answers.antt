use Prim.Native.Nat.{ℕ, ◌≤◌, ◌<◌}
use lib.ListN.{length}
use Rattle.rules.specs.Decimals.{decimal}
use Rattle.rules.proofs.Decimals.{decimal-within}
use Rattle.lettering.proofs.LastDigits.{digits-one, digits-tenth}
use native.Mathlib.Omega.{arith}
use Rattle.lettering.proofs.digits.count_digits.Goals as goal

most : (n : ℕ) → n < 18_446_744_073_709_551_616 → length (decimal n) ≤ 20
most n h = decimal-within 19 n (omega arith)

-- src/digits.rt:17:9
pub overflow_add-count : goal.overflow_add-count
overflow_add-count c = record { fits = omega (arith, c.loop-left.invariant, most c.args.n c.ranges.n.fits) }

-- src/digits.rt:15:5
pub loop-left-preserved : goal.loop-left-preserved
loop-left-preserved c = omega (arith, c.loop-left.invariant, digits-tenth c.loop-left.left c.loop-left-test.true)

-- src/digits.rt:10:1
pub returns : goal.returns
returns c = omega (arith, c.loop-left.invariant, digits-one c.loop-left.left c.loop-left-test.false)
