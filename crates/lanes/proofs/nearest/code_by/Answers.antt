use Prim.Native.Nat.{ℕ, ◌+◌, ◌*◌, ◌/◌, ◌≤◌, ◌<◌}
use mathlib.Core.Path.{◌≡◌, sym, ap, ap₂, subst, ◌∙◌}
use mathlib.Core.Bool.{true, not}
use lib.Dec.{eqb}
use native.Mathlib.Nat as NatL
use native.Mathlib.Omega.{arith}
use borrow.Author.Rules.{rules}
use borrow.Author.Tests.{ne_eqb}
use lib.IntN.{ℤ, pos, nat_abs, ◌*ℤ◌}
use mir.Syntax.{w64}
use mir.Val.{SFits, to_z, of_z}
use Rattle.whole.specs.Integers.{up}
use Rattle.whole.specs.Nearest.{code}
use Rattle.whole.specs.Reciprocals.{Divides, WideDivides}
use Rattle.whole.specs.declared.reciprocal.Reciprocal.{Reciprocal}
use Rattle.whole.specs.declared.reciprocal.WideReciprocal.{WideReciprocal}
use Rattle.whole.proofs.Held.{field, negative, not_negative, as-u64}
use Rattle.whole.proofs.NearestLaws.{code-top}
use Rattle.whole.proofs.Reciprocals.{reciprocal-divides, wide-divides}
use Rattle.colour.specs.Adding.{Codable}
use Rattle.lanes.specs.Cubes.{Wide, Nearby}
use Rattle.lanes.specs.declared.cube.Cube.{Cube}
use Rattle.lanes.proofs.Halving.{when-below, when-above, when-inside, once-inside}
use Rattle.lanes.proofs.nearest.code_by.Goals as goal

-- Below 0 the code is 0, above full it is M, and in between it is (p·S + unit / 2) / unit, which the wide reciprocal gives, since it divides p·full and half the
-- unit more. Near p is 1, and the shorter reciprocal divides full and half the unit more.
module _ (cube : Cube) (w : Wide cube) (coded : Codable cube.times cube.axis cube.most) where
  abbrev p : ℕ
  p = cube.times

  abbrev unit : ℕ
  unit = cube.axis.unit

  abbrev full : ℕ
  full = cube.axis.full

  abbrev most : ℕ
  most = cube.most

  some : 0 < unit
  some = omega (arith, w.halved.least)

  times-most : (s : ℕ) → s ≤ full → p * s + cube.half ≤ p * full + cube.half
  times-most s h = omega (arith, NatL.mul-le-mul_left p h)

  dividing : (s : ℕ) → s ≤ full → WideDivides cube.wide (p * s + cube.half)
  dividing s h =
      subst (λ r. WideDivides r (p * s + cube.half)) (sym w.halved.wide_is)
      (wide-divides unit (p * s + cube.half) (p * full + cube.half) some (times-most s h) w.exact)

  -- ---- the code of a sum

  module _ (z : ℤ) where
    below-full : up z ≡ 0 → 0 ≡ code (pos most *ℤ z) full most
    below-full = when-below p most full unit coded.in_terms coded.wide some z

    above-full : full < up z → most ≡ code (pos most *ℤ z) full most
    above-full = when-above p most full unit coded.in_terms coded.wide some z

    inside-full : up z ≤ full → (p * up z + cube.half) / cube.wide.by ≡ code (pos most *ℤ z) full most
    inside-full h =
        ap₂ (λ x (r : WideReciprocal). (p * up z + x) / r.by) w.halved.half_is w.halved.wide_is
        ∙ when-inside p most full unit coded.in_terms coded.wide some z h

-- ---- near

module _ (cube : Cube) (n : Nearby cube) where
  dividing-near : (s : ℕ) → s ≤ cube.axis.full → Divides cube.unit (s + cube.half)
  dividing-near s h =
      let single = n.single in
      subst (λ r. Divides r (s + cube.half)) (sym single.halved.unit_is)
      (reciprocal-divides cube.axis.unit (s + cube.half) (cube.axis.full + cube.half) (omega (arith, single.halved.least)) (omega arith) single.exact)

  inside-near : (z : ℤ) → up z ≤ cube.axis.full → (up z + cube.half) / cube.unit.by ≡ code (pos cube.most *ℤ z) cube.axis.full cube.most
  inside-near z h =
      ap₂ (λ x (r : Reciprocal). (up z + x) / r.by) n.single.halved.half_is n.single.halved.unit_is
      ∙ once-inside cube.most cube.axis.full cube.axis.unit n.in_terms n.some (omega (arith, n.single.halved.least)) z h

  near_so : (z : ℤ) {above r : ℕ} → above ≡ up z → above ≤ cube.axis.full → r ≡ (above + cube.half) / cube.unit.by
      → r ≡ code (pos cube.most *ℤ z) cube.axis.full cube.most
  near_so z e h q = q ∙ ap (λ x. (x + cube.half) / cube.unit.by) e ∙ inside-near z (subst (λ x. x ≤ cube.axis.full) e h)

-- ---- far

module _ (cube : Cube) (w : Wide cube) (coded : Codable cube.times cube.axis cube.most) where
  far_so : (z : ℤ) {above r : ℕ} → above ≡ up z → above ≤ cube.axis.full → r ≡ (cube.times * above + cube.half) / cube.wide.by
      → r ≡ code (pos cube.most *ℤ z) cube.axis.full cube.most
  far_so z e h q = q ∙ ap (λ x. (cube.times * x + cube.half) / cube.wide.by) e ∙ inside-full cube w coded z (subst (λ x. x ≤ cube.axis.full) e h)

-- a parameter that is not 0 is true
set-so : (n : ℕ) → (n ≡ 0 → ⊥) → not (eqb n 0) ≡ true
set-so n h = ap not (ne_eqb n 0 h)

-- ---- S as a u64
pub returns-then-s-lt0 : goal.returns-then-s-lt0
returns-then-s-lt0 g c =
    let f : SFits w64 c.args.sum.0 = search rules in
    below-full c.args.cube c.requires.wide c.requires.codable c.args.sum.0 (negative (field _ f) c.if-s-lt0.true)

pub returns-then-above-axis : goal.returns-then-above-axis
returns-then-above-axis g c =
    let z = c.args.sum.0 in
    let f : SFits w64 z = search rules in
    let h = field _ f in
    let above-is : nat_abs (to_z w64 (of_z w64 z)) ≡ up z = as-u64 h (not_negative h c.if-s-lt0.false) in
    above-full c.args.cube c.requires.wide c.requires.codable z (subst (λ n. c.args.cube.axis.full < n) above-is c.if-above-axis.true)

-- ---- in between, near
pub quotient-requires : goal.quotient-requires
quotient-requires g c = dividing-near c.args.cube (c.requires.nearby (set-so _ c.if-this-ne0.true)) _ c.if-above-axis.false

pub overflow_cast-result : goal.overflow_cast-result
overflow_cast-result g c =
    let cube = c.args.cube in
    let z = c.args.sum.0 in
    let f : SFits w64 z = search rules in
    let h = field _ f in
    let coded = near_so cube (c.requires.nearby (set-so _ c.if-this-ne0.true)) z (as-u64 h (not_negative h c.if-s-lt0.false)) c.if-above-axis.false c.quotient.ensures in
    record { fits = omega (arith, coded, code-top (pos cube.most *ℤ z) cube.axis.full cube.most, c.requires.codable.deepest) }

pub returns-then-this-ne0 : goal.returns-then-this-ne0
returns-then-this-ne0 g c =
    let z = c.args.sum.0 in
    let f : SFits w64 z = search rules in
    let h = field _ f in
    near_so c.args.cube (c.requires.nearby (set-so _ c.if-this-ne0.true)) z (as-u64 h (not_negative h c.if-s-lt0.false)) c.if-above-axis.false c.quotient.ensures

-- ---- and far
pub quotient-requires-2 : goal.quotient-requires-2
quotient-requires-2 g c = dividing c.args.cube c.requires.wide c.requires.codable _ c.if-above-axis.false

pub overflow_cast-result-2 : goal.overflow_cast-result-2
overflow_cast-result-2 g c =
    let cube = c.args.cube in
    let z = c.args.sum.0 in
    let f : SFits w64 z = search rules in
    let h = field _ f in
    let coded = far_so cube c.requires.wide c.requires.codable z (as-u64 h (not_negative h c.if-s-lt0.false)) c.if-above-axis.false c.quotient-2.ensures in
    record { fits = omega (arith, coded, code-top (pos cube.most *ℤ z) cube.axis.full cube.most, c.requires.codable.deepest) }

pub returns : goal.returns
returns g c =
    let z = c.args.sum.0 in
    let f : SFits w64 z = search rules in
    let h = field _ f in
    far_so c.args.cube c.requires.wide c.requires.codable z (as-u64 h (not_negative h c.if-s-lt0.false)) c.if-above-axis.false c.quotient-2.ensures
