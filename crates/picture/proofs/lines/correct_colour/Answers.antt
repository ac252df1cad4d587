use mathlib.Core.Path.{refl}
use Rattle.rules.specs.Units.{raw_m}
use Rattle.picture.proofs.Filled.{inside-so}
use Rattle.picture.proofs.ThreePasses.{line_at, line-passed}
use Rattle.picture.proofs.lines.correct_colour.Goals as goal

-- A line is corrected by the two M of its depths.
pub correct_line-requires-clause-line_at : goal.correct_line-requires-clause-line_at
correct_line-requires-clause-line_at c = line_at c.requires.depths_value.0 c.requires.depths_value.1.0 refl refl

pub correct_line-requires-clause-inside : goal.correct_line-requires-clause-inside
correct_line-requires-clause-inside c = inside-so (raw_m c.args.depths) c.args.src.now c.requires.depths_value.1.1 refl

pub returns : goal.returns
returns c = λ l e. line-passed l e c.colour_place.ensures (c.correct_line.ensures (line_at l e refl refl))
