use Prim.Native.Nat.{◌*◌, ◌/◌}
use mathlib.Core.Path.{◌≡◌, ap, ◌∙◌}
use native.Mathlib.Omega.{arith}
use lib.IntN.{pos, ◌*ℤ◌}
use lib.Signed.{quot_z}
use Rattle.rules.specs.Units.{bound_one}
use Rattle.colour.specs.Plans.{low_of}
use Rattle.colour.proofs.Plans.{low-most}
use Rattle.colour.proofs.plan.axis_of.Goals as goal

-- the lower bound, by the width found
low-made : (c : goal.After-low_in) → let a = c.args in c.low_in.result.0 ≡ low_of a.dom a.span
low-made c =
    let a = c.args in
    c.low_in.ensures ∙ ap (λ w. quot_z (pos (bound_one * a.span / w) *ℤ a.dom.lower.0) (pos bound_one)) c.width_of.ensures

pub times_m-requires : goal.times_m-requires
times_m-requires c = rw (low-made c) (omega (arith, low-most c.args.dom c.requires.domain_fits c.args.span c.requires.span_le_width_limit))
