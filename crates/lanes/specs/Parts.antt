-- An axis in greater parts.
use Rattle.std.specs.Prelude.{ℕ, ◌*◌, ◌%◌, ◌≤◌, ◌<◌, ◌≡◌, Option, IfSome, pos, neg_ℤ, nat_abs}
use Rattle.whole.specs.Reciprocals.{divisor_of}
use Rattle.rules.specs.Looking.Interpolation.{denominator}
use Rattle.colour.specs.declared.plan.Axis.{Axis}

pub record GoesInto (g : ℕ) (axis : Axis) : Type 0 where
  pub most : g ≤ axis.den
  pub each : axis.each % g ≡ 0
  pub low : nat_abs axis.low.0 % g ≡ 0
  pub den : axis.den % g ≡ 0
  pub unit : axis.unit % g ≡ 0

-- parts of g each; the lower bound is at code 0 or below it
pub record Parted (g : ℕ) (axis parts : Axis) : Type 0 where
  pub each_is : axis.each ≡ g * parts.each
  pub low_is : axis.low.0 ≡ neg_ℤ (pos (g * nat_abs parts.low.0))
  pub den_is : axis.den ≡ g * parts.den
  pub unit_is : axis.unit ≡ g * parts.unit
  pub full_is : parts.full ≡ denominator parts.den
  pub divisor_is : parts.divisor ≡ divisor_of (2 * parts.unit)
  pub stride_is : parts.stride ≡ axis.stride
  pub least : 8_388_608 < parts.unit

abbrev pub PartedIf : ℕ → Axis → Option Axis → Type 0
PartedIf g axis found = IfSome found (λ parts. Parted g axis parts)
