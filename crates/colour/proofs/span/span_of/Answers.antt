use mathlib.Core.Path.{sym, subst}
use Rattle.rules.specs.Descriptions.{DomainFits}
use Rattle.colour.proofs.Plans.{sound}
use Rattle.colour.proofs.span.span_of.Goals as goal

pub width_of-requires : goal.width_of-requires
width_of-requires c = subst DomainFits (sym c.domain_of.ensures) ((sound _ c.requires).domains c.args.c)
