use Prim.Native.Nat.{◌+◌, ◌-◌}
use lib.ListN.{length}
use Rattle.pointing.proofs.Counting.{Counted}
use Rattle.pointing.proofs.rows.rows_in.Given as goal

-- The invariant is the count so far, and the measure what is left of the file.
abbrev pub invariant-loop-start : goal.invariant-loop-start
invariant-loop-start l = Counted l.file l.c l.rows

abbrev pub decreases-loop-start : goal.decreases-loop-start
decreases-loop-start l = length l.file + 1 - l.c.at
