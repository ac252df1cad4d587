use Prim.Native.Nat.{◌+◌, ◌-◌}
use lib.ListN.{length}
use Rattle.reading.specs.View.{view}
use Rattle.reading.proofs.FirstPass.{Onward}
use Rattle.reading.proofs.first_pass.judge_file.Given as goal

-- The invariant is the rules' reading from the cursor on, and the measure what is left of the file; each turn cites the laws of the first pass,
-- for the run of plain rows and then for the line after it.
abbrev pub invariant-loop-start : goal.invariant-loop-start
invariant-loop-start l = Onward l.file l.places (view l.st) l.c

abbrev pub decreases-loop-start : goal.decreases-loop-start
decreases-loop-start l = length l.file + 1 - l.c.at
