use mathlib.Core.Path.{ap, ◌∙◌}
use Prim.Native.Nat.{◌/◌}
use native.Mathlib.Omega.{arith}
use lib.Dec.{leb}
use Rattle.whole.specs.Reciprocals.{excess}
use Rattle.whole.proofs.Reciprocals.{excess-computed, product-tested}
use Rattle.whole.proofs.reciprocal.Reciprocal.divides.Goals as goal

pub returns : goal.returns
returns c =
    let s = c.before in
    ap (λ x. leb x (18_446_744_073_709_551_615 / s.args.most)) (excess-computed s.args.self.by (omega (arith, s.requires.lt_by)))
    ∙ product-tested s.args.most (excess s.args.self.by) (omega (arith, c.if-most-eq0.false))
