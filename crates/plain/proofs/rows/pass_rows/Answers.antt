use native.Mathlib.Omega.{arith}
use Rattle.plain.proofs.Runs.{one-passed}
use Rattle.plain.proofs.rows.pass_rows.Goals as goal

pub loop-rows-preserved : goal.loop-rows-preserved
loop-rows-preserved c = (omega arith, one-passed c.loop-rows.invariant.1 c.loop-rows-test.true (c.row_end-end.ensures c.if-end-at.false))
