use Prim.Native.Nat.{◌≤◌}
use mathlib.Core.Path.{sym, subst, ◌∙◌}
use native.Mathlib.Omega.{arith}
use Rattle.colour.specs.Limits.{den_limit}
use Rattle.desk.specs.Arguments.{UpTo}
use Rattle.desk.proofs.Kept.{up_to}
use Rattle.given.proofs.weight_by.Goals as goal

pub signed_weight-requires : goal.signed_weight-requires
signed_weight-requires c =
    let small : c.in-Ok.n ≤ den_limit = subst (UpTo den_limit) (sym c.number_in.ensures ∙ c.in-Ok.is) (up_to den_limit _) in
    omega (arith, small)
