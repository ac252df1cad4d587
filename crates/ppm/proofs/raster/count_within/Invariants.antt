use Prim.Native.Nat.{ℕ}
use mathlib.Core.Path.{◌≡◌}
use mathlib.Core.Bool.{Bool}
use lib.Dec.{leb}
use lib.ListN.{length}
use Rattle.rules.specs.Reading.Lines.{run}
use Rattle.scan.specs.RunEnds.{run_end}
use Rattle.ppm.proofs.raster.count_within.Given as goal

-- The run's length is what the scan has passed and the run from there, as for bytes of a kind.
-- a code that is at most m
abbrev pub within : ℕ → ℕ → Bool
within m c = leb c m

abbrev pub invariant-loop-i : goal.invariant-loop-i
invariant-loop-i l = length (run (within l.m) l.codes) ≡ run_end (within l.m) l.codes l.i
