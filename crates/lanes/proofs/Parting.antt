-- An axis in greater parts. What a number goes into without rest is so many times the quotient. A lower bound that is not above 0 is as far below it as from it,
-- and so is its quotient.
use Prim.Native.Nat.{ℕ, zero, suc, ◌*◌, ◌/◌, ◌%◌, ◌≤◌, ◌<◌}
use mathlib.Core.Path.{◌≡◌, refl, sym, ap, subst, ◌∙◌}
use mathlib.Core.List.{List}
use native.Mathlib.Nat as NatL
use native.Mathlib.Omega.{arith}
use lib.IntN.{ℤ, pos, negsuc, neg_ℤ, nat_abs}
use lib.Signed.{quot_z}
use Rattle.whole.specs.Integers.{up}
use Rattle.whole.specs.Reciprocals.{divisor_of}
use Rattle.whole.specs.declared.Whole.{Whole}
use Rattle.whole.specs.declared.reciprocal.Divisor.{Divisor}
use Rattle.whole.proofs.Halves.{neg-abs}
use Rattle.whole.proofs.Held.{quot-size}
use Rattle.rules.specs.Units.{greatest_n, stride}
use Rattle.rules.specs.Looking.Interpolation.{denominator}
use Rattle.rules.specs.declared.Colour.{Colour}
use Rattle.rules.specs.declared.Colour.TheVariants.{Red, Green, Blue}
use Rattle.rules.proofs.Sound.{sound-of}
use Rattle.colour.specs.Plans.{axis_in, Planned}
use Rattle.colour.specs.declared.plan.Axis.{Axis}
use Rattle.colour.specs.declared.plan.Plan.{Plan}
use Rattle.colour.proofs.Plans.{kind-is, axis-is, codable}
use Rattle.lanes.specs.Cubes.{Cuboid}
use Rattle.lanes.specs.Parts.{GoesInto, Parted}

-- ---- a number in parts

pub in_parts : (x g : ℕ) → x % g ≡ 0 → x ≡ g * (x / g)
in_parts x g h = omega (arith, NatL.div-add-mod x g)

pub parts-most : (g x y : ℕ) → 0 < g → x ≡ g * y → y ≤ x
parts-most g x y some e = omega (arith, NatL.le-mul_of_pos_right y some, NatL.mul_comm g y)

pub parts-some : (g x y : ℕ) → 0 < x → x ≡ g * y → 0 < y
parts-some g x zero some e = absurd (omega (arith, NatL.mul-zero g))
parts-some g x (suc y) some e = omega arith

-- ---- a lower bound

pub not-above : (z : ℤ) → up z ≡ 0 → z ≡ neg_ℤ (pos (nat_abs z))
not-above (pos zero) h = refl
not-above (pos (suc n)) h = absurd (NatL.suc-ne-zero n h)
not-above (negsuc n) h = refl

pub low-in-parts : (z : ℤ) (g : ℕ) → up z ≡ 0 → nat_abs z % g ≡ 0 → z ≡ neg_ℤ (pos (g * nat_abs (quot_z z (pos g))))
low-in-parts z g low h = not-above z low ∙ ap (λ n. neg_ℤ (pos n)) (in_parts (nat_abs z) g h ∙ ap (λ n. g * n) (sym (quot-size z g)))

-- ---- an axis

-- divided by a number that goes into it
pub axis-parted : (g : ℕ) (axis : Axis) {low : Whole} {divisor : Divisor} → up axis.low.0 ≡ 0 → GoesInto g axis → 8_388_608 < axis.unit / g
    → low.0 ≡ quot_z axis.low.0 (pos g) → divisor ≡ divisor_of (2 * (axis.unit / g))
    → Parted g axis
    (record {
      each = axis.each / g;
      low = low;
      den = axis.den / g;
      full = denominator (axis.den / g);
      unit = axis.unit / g;
      divisor = divisor;
      stride = axis.stride;
    })
axis-parted g axis below goes least over divides =
    record {
      each_is = in_parts axis.each g goes.each;
      low_is = low-in-parts axis.low.0 g below goes.low ∙ ap (λ z. neg_ℤ (pos (g * nat_abs z))) (sym over);
      den_is = in_parts axis.den g goes.den;
      unit_is = in_parts axis.unit g goes.unit;
      full_is = refl;
      divisor_is = divides;
      stride_is = refl;
      least = least;
    }

-- its numbers are no greater in parts, and D is not 0
module _ {g : ℕ} {axis parts : Axis} (some : 0 < g) (p : Parted g axis parts) where
  pub each-parts-most : parts.each ≤ axis.each
  each-parts-most = parts-most g axis.each parts.each some p.each_is

  pub low-parts-most : nat_abs parts.low.0 ≤ nat_abs axis.low.0
  low-parts-most =
      let n = nat_abs parts.low.0 in
      parts-most g (nat_abs axis.low.0) n some (ap nat_abs p.low_is ∙ neg-abs (pos (g * n)))

  pub den-parts-some : 0 < axis.den → 0 < parts.den
  den-parts-some wide = parts-some g axis.den parts.den wide p.den_is

-- ---- the axes of a plan

strides-most : (n : ℕ) → n ≤ 256 → (c : Colour) → stride n c ≤ 65536
strides-most n h Red = omega arith
strides-most n h Green = omega arith
strides-most n h Blue = NatL.mul-le-mul {n₂ = 256} {m₂ = 256} h h

-- in 3D N is at most 256
pub stride_most : {plan : Plan} {table : List ℤ} → Cuboid plan table → (c : Colour) → (axis_in plan c).stride ≤ 65536
stride_most {table} p c =
    let d = p.planned.d in
    let n : d.n ≤ 256 = subst (λ k. d.n ≤ greatest_n k) (sym (kind-is p.planned) ∙ p.three_d) (sound-of d table p.planned.could).most in
    rw (axis-is p.planned c) (strides-most d.n n c)

-- a unit is far below 2^63
pub unit_most : {plan : Plan} {table : List ℤ} → Planned plan table → (c : Colour) → (axis_in plan c).unit < 9_223_372_036_854_775_808
unit_most p c = omega (arith, (codable p c).fits)
