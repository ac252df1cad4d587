use Prim.Native.Nat.{◌+◌, ◌-◌}
use lib.ListN.{length}
use Rattle.pointing.proofs.Ahead.{Ahead}
use Rattle.pointing.proofs.lines.line_past.Given as goal

-- The invariant is the search from the cursor on, and the measure what is left of the file; each turn cites the laws of the search.
abbrev pub invariant-loop-start : goal.invariant-loop-start
invariant-loop-start l = Ahead l.file l.others l.c l.left

abbrev pub decreases-loop-start : goal.decreases-loop-start
decreases-loop-start l = length l.file + 1 - l.c.at
