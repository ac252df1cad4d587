use Prim.Native.Nat.{◌+◌, ◌-◌}
use lib.ListN.{length}
use Rattle.reading.proofs.SecondPass.{Filled}
use Rattle.reading.proofs.second_pass.fill.Given as goal

-- The invariant is the table filled up to the cursor, and the measure what is left of the file; each turn cites the laws of the second pass,
-- for the run of plain rows and then for the line after it.
abbrev pub invariant-loop-start : goal.invariant-loop-start
invariant-loop-start l = Filled l.file l.initial.table l.table l.c l.at

abbrev pub decreases-loop-start : goal.decreases-loop-start
decreases-loop-start l = length l.file + 1 - l.c.at
