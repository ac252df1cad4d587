use mathlib.Core.Path.{ap, ◌∙◌}
use Rattle.rules.specs.Units.{raw_m}
use Rattle.rules.specs.Looking.Interpolation.{den_of, row_code}
use Rattle.halves.specs.Listed.{listed}
use Rattle.explain.specs.Spans.{span_of}
use Rattle.explain.proofs.Spanning.{listed-stand, four-shown, den-there}
use Rattle.explain.proofs.rows.span_shown.Goals as goal

pub span_of-requires : goal.span_of-requires
span_of-requires c = listed-stand c.requires c.args.c c.four_of.result c.four_of.ensures

pub returns : goal.returns
returns c =
    let d = c.args.d in
    let table = c.args.table.now in
    let den = den_of d (raw_m c.args.depths) c.args.c in
    c.span_of.ensures den (den-there c.requires c.args.c)
    ∙ ap (λ m. span_of (row_code m den table c.args.c) m (listed c.four_of.result)) c.greatest.ensures
    ∙ four-shown c.requires c.args.c c.four_of.result c.four_of.ensures
