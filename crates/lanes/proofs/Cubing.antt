-- An axis in greater parts makes the codes of the axis itself: all that is divided and all that it is divided by are less by the same number.
use Prim.Native.Nat.{ℕ, zero, suc, ◌*◌, ◌≤◌, ◌<◌}
use mathlib.Core.Path.{◌≡◌, sym, ap, ◌∙◌}
use mathlib.Core.List.{List}
use native.Mathlib.Nat as NatL
use native.Mathlib.Omega.{arith}
use lib.IntN.{ℤ}
use Rattle.rules.specs.Units.{corrected_m}
use Rattle.rules.specs.Looking.Interpolation.{denominator}
use Rattle.rules.specs.declared.Colour.{Colour}
use Rattle.colour.specs.Plans.{axis_in, Planned}
use Rattle.colour.specs.Adding.{Codable}
use Rattle.colour.specs.declared.plan.Axis.{Axis}
use Rattle.colour.specs.declared.plan.Plan.{Plan}
use Rattle.colour.proofs.Plans.{axis-fits, codable}
use Rattle.lanes.specs.Parts.{Parted}

-- that of any colour of a plan
module _ {plan : Plan} {table : List ℤ} (p : Planned plan table) (c : Colour) {g : ℕ} {axis : Axis} (some : 0 < g) (parted : Parted g (axis_in plan c) axis) where
  abbrev m : ℕ
  m = corrected_m p.depths

  abbrev whole : Codable plan.times (axis_in plan c) m
  whole = codable p c

  full-parts : (axis_in plan c).full ≡ g * axis.full
  full-parts = whole.full ∙ ap denominator parted.den_is ∙ NatL.mul_assoc g axis.den _ ∙ ap (λ x. g * x) (sym parted.full_is)

  -- a part is at most the whole
  part-most : (x : ℕ) → x ≤ g * x
  part-most x = omega (arith, NatL.mul-le-mul_right x some)

  in_parts : plan.times * axis.full ≡ m * axis.unit
  in_parts =
      NatL.eq_of_mul-eq-mul_left g some (plan.times * axis.full) (m * axis.unit)
      (NatL.mul_left_comm g plan.times axis.full
      ∙ ap (λ x. plan.times * x) (sym full-parts)
      ∙ whole.in_terms
      ∙ ap (λ x. m * x) parted.unit_is
      ∙ NatL.mul_left_comm m g axis.unit)

  pub den-narrow : axis.den ≤ 655_350_000
  den-narrow = omega (arith, part-most axis.den, parted.den_is, (axis-fits p c).most)

  pub parts-codable : Codable plan.times axis m
  parts-codable =
      record {
        full = parted.full_is;
        wide = by axis.full full-parts;
        in_terms = in_parts;
        divisor = parted.divisor_is;
        fits = omega (arith, whole.fits, NatL.mul_left_comm g plan.times axis.full, ap (λ x. plan.times * x) full-parts, part-most (plan.times * axis.full), part-most axis.unit, parted.unit_is);
        least = omega (arith, parted.least);
        deepest = whole.deepest;
      }
    where
      by : (x : ℕ) → (axis_in plan c).full ≡ g * x → 0 < x
      by zero e = absurd (omega (arith, whole.wide, NatL.mul-zero g))
      by (suc x) e = omega arith
