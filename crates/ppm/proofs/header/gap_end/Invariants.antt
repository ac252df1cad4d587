use mathlib.Core.Path.{◌≡◌}
use mathlib.Core.Bool.{false}
use Rattle.ppm.specs.Header.{gap_end}
use Rattle.ppm.proofs.header.gap_end.Given as goal

-- The gap ends where the gap from the place that the scan has come to does: a byte of the gap changes nothing in that, another byte or the end leaves no more.
abbrev pub invariant-loop-i : goal.invariant-loop-i
invariant-loop-i l = gap_end false l.s l.from ≡ gap_end l.comment l.s l.i
