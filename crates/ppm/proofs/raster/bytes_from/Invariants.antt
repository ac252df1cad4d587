use Rattle.ppm.specs.Raster.{bytes_of}
use Rattle.ppm.proofs.Putting.{Put}
use Rattle.ppm.proofs.raster.bytes_from.Given as goal

-- The invariant: the first i places are put.
abbrev pub invariant-loop-i : goal.invariant-loop-i
invariant-loop-i l = Put (bytes_of l.wide l.codes) l.initial.bytes l.n l.i l.bytes
