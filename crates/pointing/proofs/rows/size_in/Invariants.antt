use Prim.Native.Nat.{◌+◌, ◌-◌}
use lib.ListN.{length}
use Rattle.pointing.proofs.Counting.{Sizing}
use Rattle.pointing.proofs.rows.size_in.Given as goal

-- The invariant is the search from the cursor on, and the measure what is left of the file.
abbrev pub invariant-loop-start : goal.invariant-loop-start
invariant-loop-start l = Sizing l.file l.c

abbrev pub decreases-loop-start : goal.decreases-loop-start
decreases-loop-start l = length l.file + 1 - l.c.at
