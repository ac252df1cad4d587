use Rattle.writing.proofs.Lengths.{RowsCounted}
use Rattle.writing.proofs.counts.count_lines.Given as goal

-- The bytes counted are the text of the rows passed, at most 66 for each.
abbrev pub invariant-loop-i : goal.invariant-loop-i
invariant-loop-i l = RowsCounted l.table l.rows l.i l.total
