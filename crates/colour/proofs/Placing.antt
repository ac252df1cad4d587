-- The place of a code on an axis lies within one of its cells, and it and its position are the rule's where the axis is that of a domain and a span.
use Prim.Native.Nat.{ℕ, zero, suc, ◌-◌, ◌*◌, ◌/◌, ◌≤◌, ◌<◌, min}
use mathlib.Core.Path.{◌≡◌, refl, sym, ap, ◌∙◌}
use native.Mathlib.Nat as NatL
use native.Mathlib.Decide.{dec_le}
use native.Mathlib.Omega.{arith}
use lib.IntN.{ℤ, pos, negsuc, neg_ℤ, ◌-ℤ◌, ◌*ℤ◌}
use lib.Signed.{quot_z}
use Rattle.whole.specs.Integers.{up}
use Rattle.rules.specs.Units.{bound_one}
use Rattle.rules.specs.Descriptions.{width}
use Rattle.rules.specs.Looking.Interpolation.{den, position, index, fraction, brought}
use Rattle.rules.specs.declared.Domain.{Domain}
use Rattle.rules.proofs.Looking.Spans.{InParts}
use Rattle.rules.proofs.Looking.Brought.{offset_in, position-in, index_in, fraction-in}
use Rattle.colour.specs.Plans.{each_of, low_of, axis_of}
use Rattle.colour.specs.Places.{AxisFits, CellsFit, place_of}
use Rattle.colour.specs.declared.place.Place.{Place}
use Rattle.colour.specs.declared.plan.Axis.{Axis}

-- p of the rule, with D, N − 1 and the parts of the span as the plan keeps them
abbrev pub position_on : Axis → ℕ → ℕ → ℕ
position_on axis cells c = min axis.den (up (pos (axis.each * c) -ℤ axis.low.0)) * cells

-- the index is that of a cell, and the fraction is of D
pub record Placed (axis : Axis) (cells : ℕ) (q : Place) : Type 0 where
  pub cell : q.index < cells
  pub part : q.fraction ≤ axis.den

-- what is left of p above the start of its cell, where the last cell takes its end too
rest-most : (p den k : ℕ) → 0 < den → p ≤ den * suc k → p - min (p / den) k * den ≤ den
rest-most p den k wide h = by (dec_le (p / den) k)
  where
    by : Dec (p / den ≤ k) → p - min (p / den) k * den ≤ den
    by (yes l) = rw (NatL.min-eq_left l) (omega (arith, NatL.lt-div-mul-add {a = p} {b = den} wide))
    by (no l) = let e : k ≤ p / den = omega arith in rw (NatL.min-eq_right e) (omega (arith, NatL.mul-suc den k, NatL.mul_comm den k))

pub place-fits : {axis : Axis} {cells : ℕ} → AxisFits axis → CellsFit cells → (code : ℕ) → Placed axis cells (place_of axis cells code)
unfolding place_of
place-fits {axis} {cells} a n code =
    let whole : suc (cells - 1) ≡ cells = omega (arith, n.some) in
    record {
      cell = omega (arith, n.some);
      part = rest-most _ axis.den (cells - 1) a.wide (rw whole (NatL.mul-le-mul_right cells (NatL.min-le_left axis.den _)));
    }

-- ---- the parts of a domain, by the formulas of the plan

quot-negative : (n k : ℕ) → quot_z (neg_ℤ (pos n)) (pos k) ≡ neg_ℤ (pos (n / k))
quot-negative zero k = rw (NatL.zero-div k)
quot-negative (suc n) k = refl

quot-times : (k : ℕ) (z : ℤ) → 0 < k → quot_z (pos k *ℤ z) (pos k) ≡ z
quot-times k (pos a) h = ap pos (NatL.mul-div_cancel_left a h)
quot-times k (negsuc a) h = quot-negative (k * suc a) k ∙ ap (λ x. neg_ℤ (pos x)) (NatL.mul-div_cancel_left (suc a) h)

module _ (dom : Domain) (s : ℕ) (parts : InParts dom s) (wide : 0 < width dom) where
  each_is : each_of dom s ≡ parts.each
  each_is = NatL.div-eq_of_eq-mul_left wide (sym parts.units-so)

  low_is : low_of dom s ≡ parts.low
  low_is =
      ap (λ x. quot_z (pos x *ℤ dom.lower.0) (pos bound_one)) each_is
      ∙ ap (λ z. quot_z z (pos bound_one)) (sym parts.lower-so)
      ∙ quot-times bound_one parts.low (omega arith)

  module _ (m q n step c : ℕ) (some : 0 < s) (deep : 0 < m) (least : 2 ≤ n) where
    own : 0 < den m dom
    own = NatL.mul-pos deep wide

    pub position-is : position_on (axis_of dom s m q step) (n - 1) c ≡ brought (den m dom) (m * s) (position m dom n c)
    position-is = rw (low_is, each_is) (sym (position-in dom s parts m own n c))

    pub place_is : place_of (axis_of dom s m q step) (n - 1) c ≡ record { index = index m dom n c; fraction = brought (den m dom) (m * s) (fraction m dom n c) }
    unfolding place_of
    place_is =
        let two : n - 1 - 1 ≡ n - 2 = omega arith in
        let i = index_in dom s parts m own n c wide some in
        let f = fraction-in dom s parts m own n c least in
        rw (low_is, each_is, two)
        (λ j. record { index = sym i j; fraction = (ap (λ k. offset_in dom s parts m c * (n - 1) - k * (m * s)) (sym i) ∙ sym f) j })
