use native.Mathlib.Omega.{arith}
use Rattle.writing.proofs.RowsPut.{none-put, next_row, one-put, all-put}
use Rattle.writing.proofs.lines.put_rows.Goals as goal

pub loop-i-init : goal.loop-i-init
loop-i-init c = none-put _ _ _ (omega (arith, c.requires.room.fits))

pub put_row-requires : goal.put_row-requires
put_row-requires c =
    rw c.row_at.ensures (next_row c.loop-i.invariant c.requires.rows_in_bounds c.loop-i-test.true c.requires.room)

pub loop-i-preserved : goal.loop-i-preserved
loop-i-preserved c =
    one-put c.loop-i.invariant c.requires.rows_in_bounds c.loop-i-test.true (rw c.row_at.ensures at c.put_row.ensures)

pub returns : goal.returns
returns c = all-put c.loop-i.invariant c.loop-i-test.false
