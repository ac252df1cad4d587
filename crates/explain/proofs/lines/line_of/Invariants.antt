use Prim.Native.Nat.{◌+◌, ◌-◌}
use lib.ListN.{length}
use Rattle.explain.proofs.Seeking.{Sought}
use Rattle.explain.proofs.lines.line_of.Given as goal

-- The invariant is the search from the cursor on, and the measure what is left of the file; each turn cites the laws of seeking.
abbrev pub invariant-loop-start : goal.invariant-loop-start
invariant-loop-start l = Sought l.file l.row l.c l.rows_before

abbrev pub decreases-loop-start : goal.decreases-loop-start
decreases-loop-start l = length l.file + 1 - l.c.at
