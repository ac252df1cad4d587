-- Document 02, Req 07: what is brought from the D of a colour's own domain to the D of the weights. The position goes in without a rest, and so does the fraction;
-- the index is that of either; and both can be had from parts of the span at once.
use Prim.Native.Nat.{ℕ, ◌+◌, ◌-◌, ◌*◌, ◌/◌, ◌≤◌, ◌<◌, min}
use mathlib.Core.Path.{◌≡◌, sym, ap, ap₂, ◌∙◌}
use mathlib.Core.Logic.{◌⊎◌, inl, inr}
use native.Mathlib.Nat as NatL
use native.Mathlib.Decide.{dec_le, dec_lt}
use native.Mathlib.Omega.{arith}
use lib.IntN.{ℤ, pos, neg_ℤ, ◌-ℤ◌, ◌*ℤ◌}
use Rattle.whole.specs.Integers.{up, dn}
use Rattle.whole.proofs.Halves as H
use Rattle.rules.specs.Units.{bound_one}
use Rattle.rules.specs.Descriptions.{width}
use Rattle.rules.specs.Looking.Interpolation.{den, offset, position, index, fraction, brought}
use Rattle.rules.specs.Looking.Readings.{Reading}
use Rattle.rules.specs.declared.Domain.{Domain}
use Rattle.rules.proofs.Looking.EitherReading.{only-these}
use Rattle.rules.proofs.Looking.Rule.{rule-reads, full-last}
use Rattle.rules.proofs.Looking.Spans.{InParts}

-- ---- from one D to another

module _ (own common : ℕ) (wide : 0 < own) where
  pub brought-exact : (x y : ℕ) → y * own ≡ x * common → brought own common x ≡ y
  unfolding brought
  brought-exact x y e = NatL.div-eq_of_eq-mul_left wide (sym e)

  -- where the two are one nothing moves
  pub brought-same : common ≡ own → (x : ℕ) → brought own common x ≡ x
  brought-same e x = brought-exact x x (ap (λ y. x * y) (sym e))

  -- a row's own point is one of either, and a cell a cell
  pub brought-row : (i : ℕ) → brought own common (i * own) ≡ i * common
  brought-row i = brought-exact (i * own) (i * common) (NatL.mul_right_comm i common own)

  pub brought-cell : (i f : ℕ) → brought own common (i * own + f) ≡ i * common + brought own common f
  unfolding brought
  brought-cell i f =
      ap (λ x. x / own) (NatL.add-mul (i * own) f common ∙ ap (λ x. x + f * common) (NatL.mul_right_comm i own common))
      ∙ NatL.mul-add-div_right wide (i * common) (f * common)

  brought-part : {f : ℕ} → f ≤ own → brought own common f ≤ common
  unfolding brought
  brought-part h = NatL.div-le_of_le-mul own (NatL.mul-le-mul_right common h)

  -- so a reading of a position is one of the position brought
  pub brought-reading : {n p i f : ℕ} → Reading n own p i f → Reading n common (brought own common p) i (brought own common f)
  brought-reading {i = i} {f = f} r =
      record { cell = r.cell; part = brought-part r.part; place = ap (brought own common) r.place ∙ brought-cell i f }

-- ---- the paper's other reading

module _ (m : ℕ) (dom : Domain) (n c common : ℕ) (wide : 0 < den m dom) (some : 0 < common) (least : 2 ≤ n) where
  abbrev p : ℕ
  p = brought (den m dom) common (position m dom n c)

  abbrev i : ℕ
  i = index m dom n c

  abbrev f : ℕ
  f = brought (den m dom) common (fraction m dom n c)

  reads : Reading n common p i f
  reads = brought-reading (den m dom) common wide (rule-reads m dom n c wide least)

  -- f reaches D in the last cell alone
  full-last-brought : common ≤ f → n ≤ i + 2
  unfolding brought
  full-last-brought k =
      full-last m dom n c wide least
      (NatL.le_of_mul-le-mul_right (rw (NatL.mul_comm common (den m dom)) at ((NatL.le-div_iff_mul-le wide).0 k)) some)

  -- the readings of the position are the paper's two and no others: the rule's, and where its f is 0 and i is above 0 the cell i − 1 with f = D
  pub paper-readings : {j g : ℕ} → Reading n common p j g → ((j ≡ i) × (g ≡ f)) ⊎ ((f ≡ 0) × ((j + 1 ≡ i) × (g ≡ common)))
  paper-readings {j} {g} q = by (dec_lt j i) (dec_lt i j)
    where
      by : Dec (j < i) → Dec (i < j) → ((j ≡ i) × (g ≡ f)) ⊎ ((f ≡ 0) × ((j + 1 ≡ i) × (g ≡ common)))
      by (yes l) k = let (next, ends) = only-these some q reads l in inr (ends.1, (sym next, ends.0))
      by (no l) (yes k) =
          let (next, ends) = only-these some reads q k in
          absurd (omega (arith, full-last-brought (NatL.le_of_eq (sym ends.0)), q.cell))
      by (no l) (no k) =
          let e : j ≡ i = omega arith in
          inl (e, omega (arith, ap (λ x. x * common) e, q.place, reads.place))

-- ---- a colour's position and fraction

min-times : (a b k : ℕ) → min a b * k ≡ min (a * k) (b * k)
min-times a b k = by (dec_le a b)
  where
    by : Dec (a ≤ b) → min a b * k ≡ min (a * k) (b * k)
    by (yes h) = ap (λ x. x * k) (NatL.min-eq_left h) ∙ sym (NatL.min-eq_left (NatL.mul-le-mul_right k h))
    by (no h) = let l : b ≤ a = omega arith in ap (λ x. x * k) (NatL.min-eq_right l) ∙ sym (NatL.min-eq_right (NatL.mul-le-mul_right k l))

module _ (dom : Domain) (s : ℕ) (q : InParts dom s) (m : ℕ) where
  abbrev w : ℕ
  w = width dom

  -- a, before it is moved to the upper end, in parts of the span and in thousandths
  abbrev parts : ℕ → ℤ
  parts c = pos (q.each * c) -ℤ (pos m *ℤ q.low)

  abbrev thousandths : ℕ → ℤ
  thousandths c = pos (bound_one * c) -ℤ (pos m *ℤ dom.lower.0)

  -- a, in parts of the span
  abbrev pub offset_in : ℕ → ℕ
  offset_in c = min (m * s) (up (parts c))

  -- what is so many parts of a unit is as many of the span's as of the width's
  scaled : (a b : ℕ) → bound_one * a ≡ q.each * b → w * (m * a) ≡ s * (m * b)
  scaled a b e =
      NatL.mul_left_comm w m a
      ∙ ap (λ x. m * x) (NatL.eq_of_mul-eq-mul_left bound_one (omega arith) (w * a) (s * b) (NatL.mul_left_comm bound_one w a ∙ ap (λ x. w * x) e ∙ sym (NatL.mul_assoc w q.each b) ∙ ap (λ x. x * b) (NatL.mul_comm w q.each ∙ q.units-so) ∙ NatL.mul_assoc bound_one s b))
      ∙ NatL.mul_left_comm m s b

  parts-exact : (c : ℕ) → w * up (parts c) ≡ s * up (thousandths c)
  parts-exact c =
      let low = pos m *ℤ q.low in
      let lower = pos m *ℤ dom.lower.0 in
      let x = parts c in
      let y = thousandths c in
      let ups = scaled (up q.low) (up dom.lower.0) (sym (H.times bound_one q.low).ups ∙ ap up q.lower-so ∙ (H.times q.each dom.lower.0).ups) in
      let dns = scaled (dn q.low) (dn dom.lower.0) (sym (H.times bound_one q.low).dns ∙ ap dn q.lower-so ∙ (H.times q.each dom.lower.0).dns) in
      let codes : w * (q.each * c) ≡ s * (bound_one * c) =
      sym (NatL.mul_assoc w q.each c) ∙ ap (λ z. z * c) (NatL.mul_comm w q.each ∙ q.units-so ∙ NatL.mul_comm bound_one s) ∙ NatL.mul_assoc s bound_one c
      in
      let left : up x + m * up q.low ≡ dn x + (q.each * c + m * dn q.low) = omega (arith, H.sum (pos (q.each * c)) (neg_ℤ low), H.neg low, H.times m q.low) in
      let right : up y + m * up dom.lower.0 ≡ dn y + (bound_one * c + m * dn dom.lower.0) =
      omega (arith, H.sum (pos (bound_one * c)) (neg_ℤ lower), H.neg lower, H.times m dom.lower.0)
      in
      omega (
        arith,
        simp NatL.mul-add at (ap (λ z. w * z) left),
        simp NatL.mul-add at (ap (λ z. s * z) right),
        ups,
        dns,
        codes,
        H.times w x,
        H.split (pos w *ℤ x),
        H.times s y,
        H.split (pos s *ℤ y),
      )

  pub offset-exact : (c : ℕ) → offset_in c * w ≡ offset m dom c * s
  unfolding offset
  offset-exact c =
      min-times (m * s) (up (parts c)) w
      ∙ ap₂ min (NatL.mul_right_comm m s w) (NatL.mul_comm (up (parts c)) w ∙ parts-exact c ∙ NatL.mul_comm s (up (thousandths c)))
      ∙ sym (min-times (m * w) (up (thousandths c)) s)

  -- so a position in parts of the span is that of the domain
  position-parts : (n c : ℕ) → offset_in c * (n - 1) * w ≡ position m dom n c * s
  unfolding position
  position-parts n c =
      NatL.mul_right_comm (offset_in c) (n - 1) w ∙ ap (λ x. x * (n - 1)) (offset-exact c) ∙ NatL.mul_right_comm (offset m dom c) s (n - 1)

  crossed : (x y : ℕ) → x * w ≡ y * s → x * den m dom ≡ y * (m * s)
  crossed x y e = NatL.mul_left_comm x m w ∙ ap (λ z. m * z) e ∙ NatL.mul_left_comm m y s

  module _ (wide : 0 < den m dom) (n c : ℕ) where
    pub position-in : brought (den m dom) (m * s) (position m dom n c) ≡ offset_in c * (n - 1)
    position-in = let x = offset_in c * (n - 1) in brought-exact (den m dom) (m * s) wide (position m dom n c) x (crossed x (position m dom n c) (position-parts n c))

    -- the position is brought without a rest
    pub position-exact : brought (den m dom) (m * s) (position m dom n c) * den m dom ≡ position m dom n c * (m * s)
    position-exact = ap (λ x. x * den m dom) position-in ∙ crossed (offset_in c * (n - 1)) (position m dom n c) (position-parts n c)

    -- the index is that of the parts
    pub index_in : 0 < w → 0 < s → index m dom n c ≡ min (offset_in c * (n - 1) / (m * s)) (n - 2)
    unfolding index
    index_in some-w some-s =
        let x = offset_in c * (n - 1) in
        ap (λ k. min k (n - 2))
        (sym (NatL.mul-div-mul_right (position m dom n c) (m * w) some-s)
        ∙ ap₂ ◌/◌ (sym (position-parts n c)) (NatL.mul_right_comm m w s)
        ∙ NatL.mul-div-mul_right x (m * s) some-w)

    module _ (least : 2 ≤ n) where
      -- the fraction is what is left of it above its cell
      pub fraction-in : brought (den m dom) (m * s) (fraction m dom n c) ≡ offset_in c * (n - 1) - index m dom n c * (m * s)
      fraction-in = omega (arith, position-in, (brought-reading (den m dom) (m * s) wide (rule-reads m dom n c wide least)).place)

      -- and is brought without a rest too
      pub fraction-exact : brought (den m dom) (m * s) (fraction m dom n c) * den m dom ≡ fraction m dom n c * (m * s)
      fraction-exact =
          let own = den m dom in
          let common = m * s in
          let i = index m dom n c in
          let r = rule-reads m dom n c wide least in
          omega (
            arith,
            position-exact,
            ap (λ x. x * common) r.place ∙ NatL.add-mul (i * own) (fraction m dom n c) common,
            ap (λ x. x * own) (brought-reading own common wide r).place ∙ NatL.add-mul (i * common) (brought own common (fraction m dom n c)) own,
            NatL.mul_right_comm i own common,
          )
