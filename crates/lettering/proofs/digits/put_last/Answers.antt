use Rattle.lettering.proofs.LastDigits.{last_fits, last-same-length, last_turn, last_end, last-length}
use native.Mathlib.Omega.{arith}
use Rattle.lettering.proofs.digits.put_last.Goals as goal

-- src/digits.rt:31:13
pub overflow_add-out-in-loop-i : goal.overflow_add-out-in-loop-i
overflow_add-out-in-loop-i c = record { fits = omega (arith, c.well_formed.0, last_fits c.loop-i.invariant c.requires, c.loop-i-test.true) }

-- src/digits.rt:31:9
pub bounds-out-at : goal.bounds-out-at
bounds-out-at c = omega (arith, last-same-length c.loop-i.invariant c.requires, last_fits c.loop-i.invariant c.requires, c.loop-i-test.true)

-- src/digits.rt:29:5
pub loop-i-preserved : goal.loop-i-preserved
loop-i-preserved c = last_turn c.loop-i.invariant c.requires c.loop-i-test.true

-- src/digits.rt:34:5
pub overflow_add-result : goal.overflow_add-result
overflow_add-result c = record { fits = omega (arith, c.well_formed.0, c.requires.fits, last-length c.args.count c.args.n) }

-- src/digits.rt:23:1
pub returns : goal.returns
returns c = last_end c.loop-i.invariant c.requires (omega (arith, c.loop-i-test.false))
