use Rattle.picture.proofs.ThreePasses.{one-d-so, lined-so, colour-passed, three-passed}
use Rattle.picture.proofs.lines.correct_colours.Goals as goal

-- Red, green and blue, each by its own pass.
pub correct_colour-requires-clause-depths_value : goal.correct_colour-requires-clause-depths_value
correct_colour-requires-clause-depths_value c = (lined-so c.requires.depths_value.0 c.requires.kind_value c.line_of.ensures, c.requires.depths_value.1)

pub correct_colour-requires-2-clause-depths_value : goal.correct_colour-requires-2-clause-depths_value
correct_colour-requires-2-clause-depths_value c = (lined-so c.requires.depths_value.0 c.requires.kind_value c.line_of-2.ensures, c.requires.depths_value.1)

pub correct_colour-requires-3-clause-depths_value : goal.correct_colour-requires-3-clause-depths_value
correct_colour-requires-3-clause-depths_value c = (lined-so c.requires.depths_value.0 c.requires.kind_value c.line_of-3.ensures, c.requires.depths_value.1)

pub returns : goal.returns
returns c =
    let a = c.args in
    let one_d = c.requires.kind_value in
    λ p e.
    three-passed p.d a.table.now a.depths (one-d-so p one_d) a.src.now a.dst.now c.requires.fillable
    (colour-passed p one_d c.line_of.ensures a.depths (c.correct_colour.ensures (lined-so p one_d c.line_of.ensures) e))
    (colour-passed p one_d c.line_of-2.ensures a.depths (c.correct_colour-2.ensures (lined-so p one_d c.line_of-2.ensures) e))
    (colour-passed p one_d c.line_of-3.ensures a.depths (c.correct_colour-3.ensures (lined-so p one_d c.line_of-3.ensures) e))
