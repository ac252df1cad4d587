use mathlib.Core.Path.{◌∙◌}
use Rattle.whole.proofs.Reciprocals.{divided}
use Rattle.whole.proofs.reciprocal.Reciprocal.quotient.Goals as goal

pub returns : goal.returns
returns c = let s = c.before in c.upper_half.ensures ∙ divided s.args.self s.args.n s.requires
