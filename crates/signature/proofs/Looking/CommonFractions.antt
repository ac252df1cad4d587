-- Document 02, Req 07: the common D of a 3D table whose domains differ, and what is brought to it. Positions and fractions keep their exact values, so the order
-- of the three fractions is that of the exact ones; the readings of a position are the paper's two; and 24 where such a table has a bound that is not whole.
use Prim.Native.Nat.{ℕ, ◌+◌, ◌-◌, ◌*◌, ◌/◌, ◌%◌, ◌≤◌, ◌<◌}
use mathlib.Core.Path.{◌≡◌, refl, sym, ap, ◌∙◌}
use mathlib.Core.Logic.{◌⊎◌, ◌↔◌}
use mathlib.Core.Bool.{true, false}
use mathlib.Core.List.{List}
use native.Mathlib.Nat as NatL
use native.Mathlib.Omega.{arith}
use lib.IntN.{ℤ, pos, neg_ℤ, ◌-ℤ◌, ◌*ℤ◌}
use Rattle.whole.specs.Integers.{up, dn}
use Rattle.whole.specs.Nearest.{weights}
use Rattle.whole.proofs.Halves as H
use Rattle.rules.specs.Units.{raw_m, bound_one, code_in}
use Rattle.rules.specs.Descriptions.{domain, units, every_colour, one_domain, whole_bounds, agree, span, could_be_read, WholeBounds, Agreed, one, whole, Sound}
use Rattle.rules.specs.Looking.Interpolation.{den, offset, position, index, fraction, den_of, position_of, index_of, fraction_of, weighed}
use Rattle.rules.specs.Looking.Readings.{Reading}
use Rattle.rules.specs.Looking.{look, used}
use Rattle.rules.specs.Demands.{LookRight}
use Rattle.rules.specs.declared.Bits.{Bits}
use Rattle.rules.specs.declared.Codes.{Codes}
use Rattle.rules.specs.declared.Colour.{Colour}
use Rattle.rules.specs.declared.Colour.TheVariants.{Red, Green, Blue}
use Rattle.rules.specs.declared.Depths.{Depths}
use Rattle.rules.specs.declared.Description.{Description}
use Rattle.rules.specs.declared.Domain.{Domain}
use Rattle.rules.specs.declared.Kind.{Kind}
use Rattle.rules.specs.declared.Kind.TheVariants.{OneD, ThreeD}
use Rattle.rules.specs.declared.Refusal.TheVariants.{CouldNotBeRead}
use Rattle.rules.specs.declared.Shares.{Shares}
use Rattle.rules.proofs.Tests.{no_true, or-none, none_or}
use Rattle.rules.proofs.Sound.{domain-one, agreed-agree, sound-of, unsound}
use Rattle.rules.proofs.Looking.Spans.{span-common, span-most, units-most, whole-width, in_parts}
use Rattle.rules.proofs.Looking.Brought.{paper-readings, position-exact, fraction-exact}
use Rattle.rules.proofs.Looking.Checks.{look-24}
use Rattle.rules.proofs.Looking.Demand3.{one-den, den-above-0}
use Rattle.signature.specs.OneDomain.{own_den, own_position, own_fraction}
use Rattle.signature.proofs.Looking.OneDomain.{own-some}
use Rattle.std.specs.Prelude.{Err}

-- ---- two fractions: x parts of c are a parts of p, and y parts of c are b parts of q

crossed : (x a p q c : ℕ) → x * p ≡ a * c → x * (p * q) ≡ a * q * c
crossed x a p q c so = sym (NatL.mul_assoc x p q) ∙ ap (λ z. z * q) so ∙ NatL.mul_right_comm a c q

module _ {x y p q c : ℕ} (a b : ℕ) (so : x * p ≡ a * c) (other : y * q ≡ b * c) (some-p : 0 < p) (some-q : 0 < q) (some-c : 0 < c) where
  -- they stand to one another over c as they do by themselves, multiplied crosswise
  order-kept : (x ≤ y) ↔ (a * q ≤ b * p)
  order-kept =
      let left = crossed x a p q c so in
      let right : y * (p * q) ≡ b * p * c = ap (λ z. y * z) (NatL.mul_comm p q) ∙ crossed y b q p c other in (
        λ h. NatL.le_of_mul-le-mul_right {k = c} (omega (arith, left, right, NatL.mul-le-mul_right (p * q) h)) some-c,
        λ h. NatL.le_of_mul-le-mul_right {k = p * q} (omega (arith, left, right, NatL.mul-le-mul_right c h)) (NatL.mul-pos some-p some-q),
      )

-- ---- of whatever could have been read; the M of every known depth is above 0

module _ (d : Description) (table : List ℤ) (m : ℕ) (pixel : Codes) (could : could_be_read d table ≡ true) (deep : 0 < m) where
  abbrev s : Sound d table
  s = sound-of d table could

  module _ (c : Colour) where
    -- a position over the D of the weights has the value that it has over its own, and so has a fraction
    pub position-kept : position_of d m pixel c * own_den d m c ≡ own_position d m pixel c * den_of d m c
    position-kept = position-exact (domain d c) (span d c) (in_parts d s c) m (own-some d table m could deep c) d.n (code_in pixel c)

    pub fraction-kept : fraction_of d m pixel c * own_den d m c ≡ own_fraction d m pixel c * den_of d m c
    fraction-kept = fraction-exact (domain d c) (span d c) (in_parts d s c) m (own-some d table m could deep c) d.n (code_in pixel c) s.least

    -- the readings of a position are the rule's, and where its f is 0 and i is above 0 the cell i − 1 with f = D
    pub readings : {j g : ℕ} → Reading d.n (den_of d m c) (position_of d m pixel c) j g
        → ((j ≡ index_of d m pixel c) × (g ≡ fraction_of d m pixel c)) ⊎ ((fraction_of d m pixel c ≡ 0) × ((j + 1 ≡ index_of d m pixel c) × (g ≡ den_of d m c)))
    readings r =
        paper-readings m (domain d c) d.n (code_in pixel c) (den_of d m c) (own-some d table m could deep c) (den-above-0 d table m could deep c) s.least r

  -- in 3D the order of the fractions is that of their exact values
  module _ (cube : d.kind ≡ ThreeD) where
    pub order-exact : (a b : Colour)
        → (fraction_of d m pixel a ≤ fraction_of d m pixel b) ↔ (own_fraction d m pixel a * own_den d m b ≤ own_fraction d m pixel b * own_den d m a)
    order-exact a b =
        order-kept (own_fraction d m pixel a) (own_fraction d m pixel b) (fraction-kept a)
        (fraction-kept b ∙ ap (λ x. own_fraction d m pixel b * x) (one-den d m cube b a))
        (own-some d table m could deep a)
        (own-some d table m could deep b)
        (den-above-0 d table m could deep a)

    -- and those are equal whose exact values are
    pub equal-exact : (a b : Colour)
        → (fraction_of d m pixel a ≡ fraction_of d m pixel b) ↔ (own_fraction d m pixel a * own_den d m b ≡ own_fraction d m pixel b * own_den d m a)
    equal-exact a b =
        let (up, down) = order-exact a b in
        let (up', down') = order-exact b a in (
          λ e. NatL.le_antisymm (up (NatL.le_of_eq e)) (up' (NatL.le_of_eq (sym e))),
          λ e. NatL.le_antisymm (down (NatL.le_of_eq e)) (down' (NatL.le_of_eq (sym e))),
        )

-- D is at most 655,350,000, whatever the kind and the domains
pub den-most : (d : Description) (table : List ℤ) → could_be_read d table ≡ true → (m : ℕ) → m ≤ 65_535 → (c : Colour) → den_of d m c ≤ 655_350_000
den-most d table could m h c = NatL.mul-le-mul h (span-most d (sound-of d table could) c)

-- ---- whole bounds: a fraction is so many thousands

module _ (dom : Domain) (w : WholeBounds dom) (m : ℕ) where
  -- so many thousands, of a bound and of D
  bound-thousands : (m * up dom.lower.0 ≡ bound_one * (m * (up dom.lower.0 / bound_one)))
      × (m * dn dom.lower.0 ≡ bound_one * (m * (dn dom.lower.0 / bound_one)))
  bound-thousands =
      let lower = dom.lower.0 in
      let ups : up lower ≡ bound_one * (up lower / bound_one) = omega (arith, H.split lower, w.lower) in
      let dns : dn lower ≡ bound_one * (dn lower / bound_one) = omega (arith, H.split lower, w.lower) in
      (ap (λ x. m * x) ups ∙ NatL.mul_left_comm m bound_one (up lower / bound_one), ap (λ x. m * x) dns ∙ NatL.mul_left_comm m bound_one (dn lower / bound_one))

  den-thousands : den m dom ≡ bound_one * (m * units dom)
  den-thousands = ap (λ x. m * x) (whole-width dom w ∙ NatL.mul_comm (units dom) bound_one) ∙ NatL.mul_left_comm m bound_one (units dom)

  module _ (n c : ℕ) where
    offset-thousands : offset m dom c % bound_one ≡ 0
    unfolding offset
    offset-thousands =
        let low = pos m *ℤ dom.lower.0 in
        let a = pos (bound_one * c) -ℤ low in
        omega (arith, bound-thousands, den-thousands, H.sum (pos (bound_one * c)) (neg_ℤ low), H.neg low, H.times m dom.lower.0, H.split a)

    position-thousands : position m dom n c ≡ bound_one * (offset m dom c / bound_one * (n - 1))
    unfolding position
    position-thousands =
        let e : offset m dom c ≡ bound_one * (offset m dom c / bound_one) = omega (arith, offset-thousands) in
        ap (λ a. a * (n - 1)) e ∙ NatL.mul_assoc bound_one (offset m dom c / bound_one) (n - 1)

    fraction-thousands : fraction m dom n c % bound_one ≡ 0
    unfolding fraction
    fraction-thousands =
        let i = index m dom n c in
        omega (arith, position-thousands, ap (λ x. i * x) den-thousands ∙ NatL.mul_left_comm i bound_one (m * units dom))

-- ---- 3D, and domains that differ

module _ (d : Description) where
  -- the rule on which 12 and 24 lean fails exactly where a 3D table has domains that differ and a bound that is not whole
  pub disagree : (k : Kind) → (agree k d ≡ false) ↔ ((k ≡ ThreeD) × (one_domain d ≡ false) × (every_colour whole_bounds d ≡ false))
  unfolding agree
  disagree k = (there-alone k, λ h. ap (λ k. agree k d) h.0 ∙ none_or (one_domain d) (every_colour whole_bounds d) h.1 h.2)
    where
      there-alone : (k : Kind) → agree k d ≡ false → (k ≡ ThreeD) × (one_domain d ≡ false) × (every_colour whole_bounds d ≡ false)
      there-alone OneD e = absurd (no_true e)
      there-alone ThreeD e = let (differ, uneven) = or-none (one_domain d) (every_colour whole_bounds d) e in (refl, differ, uneven)

  module _ (cube : d.kind ≡ ThreeD) (differ : one_domain d ≡ false) where
    -- D = M·Wr·Wg·Wb
    pub den-common : (m : ℕ) (c : Colour) → den_of d m c ≡ m * (units d.red * units d.green * units d.blue)
    den-common m c = ap (λ x. m * x) (span-common d c cube differ)

    -- to which the weights of an accepted look, and of each pixel of an accepted picture, add up
    pub weights-common : (table : List ℤ) (depths : Depths) (pixel codes : Codes) (shares : Shares) (c : Colour) → LookRight d table depths pixel codes shares c
        → weights (weighed table c (used d.kind c shares)) ≡ pos (raw_m depths * (units d.red * units d.green * units d.blue))
    weights-common table depths pixel codes shares c right = right.add_up ∙ ap pos (den-common (raw_m depths) c)

    module _ (table : List ℤ) (could : could_be_read d table ≡ true) (m : ℕ) where
      abbrev sound : Sound d table
      sound = sound-of d table could

      -- at most 65,535,000
      pub den-common-most : m ≤ 65_535 → (c : Colour) → den_of d m c ≤ 65_535_000
      den-common-most h c =
          let most : (k : Colour) → units (domain d k) ≤ 10 = λ k. units-most (domain d k) (sound.domains k) in
          rw (den-common m c) (NatL.mul-le-mul h (NatL.mul-le-mul (NatL.mul-le-mul (most Red) (most Green)) (most Blue)))

      -- each fraction, before it is brought to D, is a multiple of 1000
      pub own-thousands : (pixel : Codes) (c : Colour) → own_fraction d m pixel c % bound_one ≡ 0
      own-thousands pixel c = by (sound.agreed cube)
        where
          by : Agreed d → own_fraction d m pixel c % bound_one ≡ 0
          by (one o) = absurd (no_true (sym (domain-one d o) ∙ differ))
          by (whole w) = fraction-thousands (domain d c) (w c) m d.n (code_in pixel c)

    -- 24, whatever the rest
    module _ (uneven : every_colour whole_bounds d ≡ false) (table : List ℤ) where
      pub uneven-24 : could_be_read d table ≡ false
      uneven-24 = unsound d table (λ s. no_true (sym (agreed-agree d d.kind s.agreed) ∙ (disagree d.kind).1 (cube, differ, uneven)))

      pub look-uneven : (bits : Bits) (pixel : Codes) → look d table bits pixel ≡ Err CouldNotBeRead
      look-uneven bits pixel = look-24 d table bits pixel uneven-24
