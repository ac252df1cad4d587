use Rattle.ppm.specs.Raster.{codes_of}
use Rattle.ppm.proofs.Putting.{Put}
use Rattle.ppm.proofs.raster.codes_from.Given as goal

-- The invariant: the first i places are put.
abbrev pub invariant-loop-i : goal.invariant-loop-i
invariant-loop-i l = Put (codes_of l.wide l.bytes) l.initial.codes l.n l.i l.codes
