use native.Mathlib.Omega.{arith}
use Prim.Native.Nat.{◌*◌}
use mathlib.Core.Path.{◌≡◌}
use Rattle.rules.specs.Looking.Interpolation.{den_of}
use Rattle.rules.specs.Descriptions.{span}
use Rattle.rules.proofs.Looking.Spans.{span-most}
use Rattle.colour.proofs.Plans.{sound, den-most}
use Rattle.colour.proofs.rows.den_of.Goals as goal

-- The span is at most 10,000, so D is at most 655,350,000.
product : (c : goal.After-span_of) → let a = c.before.args in a.m * c.span_of.result ≡ den_of a.d a.m a.c
product c = rw c.span_of.ensures

pub overflow_mul-result : goal.overflow_mul-result
overflow_mul-result c =
    let a = c.args in
    omega (arith, product c, den-most a.m (span a.d a.c) (omega (arith, c.ranges.m)) (span-most a.d (sound _ c.requires) a.c))
