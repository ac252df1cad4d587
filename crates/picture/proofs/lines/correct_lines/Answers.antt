use native.Mathlib.Omega.{arith}
use Rattle.rules.specs.Units.{raw_m}
use Rattle.picture.proofs.Filled.{inside-so}
use Rattle.picture.proofs.lines.correct_lines.Goals as goal

-- With one more code kept than the raw M, every code of the picture is.
pub correct_kept-requires-clause-by_index : goal.correct_kept-requires-clause-by_index
correct_kept-requires-clause-by_index c =
    let inside = inside-so (raw_m c.args.depths) c.args.src.now c.requires.depths_value.1.1 c.greatest.ensures in
    λ k h. omega (arith, inside.inside k h)
