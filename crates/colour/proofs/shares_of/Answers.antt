use mathlib.Core.Path.{◌∙◌}
use Rattle.colour.proofs.Plans.{shown-is, path-shown, steps-fit}
use Rattle.colour.proofs.shares_of.Goals as goal

pub path_by-requires : goal.path_by-requires
path_by-requires c = rw c.steps_of.ensures (steps-fit c.requires.1 c.in-ThreeD.is c.args.pixel)

pub returns-in-OneD : goal.returns-in-OneD
returns-in-OneD c = λ table p. c.line.ensures ∙ shown-is p c.args.pixel c.in-OneD.is

pub returns-in-ThreeD : goal.returns-in-ThreeD
returns-in-ThreeD c = λ table p. path-shown p c.args.pixel c.steps_of.ensures c.path_by.ensures ∙ shown-is p c.args.pixel c.in-ThreeD.is
