use mathlib.Core.Path.{sym, ap, subst, ◌∙◌}
use Rattle.rules.specs.Units.{corrected_m}
use Rattle.rules.specs.Looking.Interpolation.{code_by}
use Rattle.colour.specs.Adding.{SharesFit}
use Rattle.colour.proofs.Lining.{line-fits, line-codable, line-shares, line_made}
use Rattle.colour.proofs.lines.line_code.Goals as goal

-- The two rows of the code are those of the line, and so is the code made of them.
pub pair_of-pair-requires : goal.pair_of-pair-requires
pair_of-pair-requires c = let (a, n) = line-fits c.requires in record { axis_fits = a; cells_fit = n }

pub pair_code-requires : goal.pair_code-requires
pair_code-requires c =
    record { by_index = (_, line-codable c.requires); shares_fit = subst (SharesFit c.args.table.now) (sym c.pair_of-pair.ensures) (line-shares c.requires c.args.code) }

pub returns : goal.returns
returns c =
    let a = c.args in
    λ l.
    c.pair_code.ensures (corrected_m l.planned.depths) (line-codable l)
    ∙ ap (code_by (corrected_m l.planned.depths) a.line.axis.den a.table.now a.line.colour) c.pair_of-pair.ensures
    ∙ line_made l a.code
