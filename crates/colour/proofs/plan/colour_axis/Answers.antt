use mathlib.Core.Path.{sym, subst}
use Rattle.rules.specs.Descriptions.{DomainFits}
use Rattle.rules.proofs.Looking.Spans.{span-some, span-most}
use Rattle.colour.proofs.Plans.{sound}
use Rattle.colour.proofs.plan.colour_axis.Goals as goal

pub axis_of-requires : goal.axis_of-requires
axis_of-requires c =
    let good = sound c.args.d c.requires.readable in
    record {
      domain_fits = subst DomainFits (sym c.domain_of.ensures) (good.domains c.args.c);
      span_nonzero = rw c.span_of.ensures (span-some c.args.d good c.args.c);
      span_le_width_limit = rw c.span_of.ensures (span-most c.args.d good c.args.c);
      q_nonzero = c.requires.q_nonzero;
      q_le_bottom_limit = c.requires.q_le_bottom_limit;
    }
