use native.Mathlib.Omega.{arith}
use Rattle.plain.proofs.Runs.{none-put, one-put}
use Rattle.plain.proofs.rows.fill_rows.Goals as goal

pub returns-then-s-lt-MOST_BYTES : goal.returns-then-s-lt-MOST_BYTES
returns-then-s-lt-MOST_BYTES c = none-put _ _ _ _ _

pub loop-rows-init : goal.loop-rows-init
loop-rows-init c = (omega arith, omega arith, none-put _ _ _ _ _)

pub loop-rows-preserved : goal.loop-rows-preserved
loop-rows-preserved c =
    let l = c.loop-rows.invariant in
    (omega arith, omega arith, one-put l.2 c.requires c.loop-rows-test.true (c.row_end-end.ensures c.if-end-at.false) l.1)
