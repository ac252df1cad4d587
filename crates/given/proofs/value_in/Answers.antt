use Prim.Native.Nat.{◌≤◌}
use mathlib.Core.Path.{sym, subst, ◌∙◌}
use native.Mathlib.Omega.{arith}
use Rattle.desk.specs.Arguments.{UpTo}
use Rattle.desk.proofs.Kept.{up_to}
use Rattle.given.proofs.value_in.Goals as goal

pub overflow_cast-result : goal.overflow_cast-result
overflow_cast-result c =
    let small : c.in-Ok.n ≤ c.args.most = subst (UpTo c.args.most) (sym c.number_in.ensures ∙ c.in-Ok.is) (up_to c.args.most _) in
    record { fits = omega (arith, small, c.requires) }
