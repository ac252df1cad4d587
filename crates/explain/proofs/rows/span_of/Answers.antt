use mathlib.Core.Path.{ap, ◌∙◌}
use Rattle.rules.specs.Looking.Interpolation.{row_code}
use Rattle.explain.specs.Spans.{widened, span_of}
use Rattle.explain.proofs.rows.span_of.Goals as goal

pub returns : goal.returns
unfolding span_of
returns c den wide =
    let a = c.args in
    let more = widened (row_code a.m den a.table.now a.c) in
    c.wider.ensures den wide
    ∙ ap (more a.four.first) (c.wider-last_three.ensures den wide ∙ ap (more a.four.second) (c.wider-last_two.ensures den wide ∙ ap (more a.four.third) (c.wider-last.ensures den wide)))
