use Prim.Native.Nat.{◌≤◌, ◌-◌}
use mathlib.Core.Path.{◌≡◌}
use lib.ListN.{length}
use Rattle.scan.specs.Kinds.{kind_of}
use Rattle.scan.specs.RunEnds.{run_end}
use Rattle.scan.proofs.run_end.Given as goal

-- The run ends where the run from the place that the scan has come to does: a byte of the kind changes nothing in that, another byte or the end leaves no more.
abbrev pub invariant-loop-i : goal.invariant-loop-i
invariant-loop-i l = (l.i ≤ length l.s) × (run_end (kind_of l.k) l.s l.from ≡ run_end (kind_of l.k) l.s l.i)

abbrev pub decreases-loop-i : goal.decreases-loop-i
decreases-loop-i l = length l.s - l.i
