use Rattle.writing.proofs.RowsPut.{RowsPut}
use Rattle.writing.proofs.lines.put_rows.Given as goal

-- The rows so far stand there.
abbrev pub invariant-loop-i : goal.invariant-loop-i
invariant-loop-i l = RowsPut l.initial.pen l.table l.rows l.pen l.i
