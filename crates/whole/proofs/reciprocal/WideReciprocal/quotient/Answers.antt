use Prim.Native.Nat.{◌/◌}
use mathlib.Core.Path.{ap, ◌∙◌}
use Rattle.whole.proofs.Reciprocals.{wide-divided}
use Rattle.whole.proofs.reciprocal.WideReciprocal.quotient.Goals as goal

pub returns : goal.returns
returns c = let s = c.before in ap (λ x. x / 8_388_608) c.upper_half.ensures ∙ wide-divided s.args.self s.args.n s.requires
