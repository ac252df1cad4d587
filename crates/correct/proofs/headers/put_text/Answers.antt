-- The job's header fits.
use native.Mathlib.Omega.{arith}
use Rattle.correct.proofs.Agreeing.{header-short}
use Rattle.correct.proofs.headers.put_text.Goals as goal

pub put_header-requires : goal.put_header-requires
put_header-requires c = record { fits = omega (arith, header-short c.requires.agrees) }
