-- The ends of the domain: the first row stands at the lower bound and the last at the upper, and what lies outside counts as at the bound (000, 6.1), each colour
-- by itself.
use Prim.Native.Nat.{ℕ, suc, ◌-◌, ◌*◌, ◌/◌, ◌≤◌, ◌<◌, min}
use mathlib.Core.Path.{◌≡◌, refl, sym, ap, ap₂, ◌∙◌}
use mathlib.Core.Bool.{true, cond}
use mathlib.Core.List.{List}
use native.Mathlib.Nat as NatL
use native.Mathlib.Omega.{arith}
use lib.IntN.{ℤ, pos, neg_ℤ, ◌-ℤ◌, ◌*ℤ◌}
use Rattle.whole.proofs.Halves as H
use Rattle.rules.specs.Units.{bound_one, code_in, depths_of, raw_m, rows_of, sample_at}
use Rattle.rules.specs.Descriptions.{could_be_read, domain, rows}
use Rattle.rules.specs.Looking.Interpolation.{den, den_of, offset, position, index, fraction, brought, position_of, shares_for, total}
use Rattle.rules.specs.Looking.{look_at, look}
use Rattle.rules.specs.Promises.{Looks}
use Rattle.rules.specs.declared.Bits.{Bits}
use Rattle.rules.specs.declared.Codes.{Codes}
use Rattle.rules.specs.declared.Colour.{Colour}
use Rattle.rules.specs.declared.Depths.{Depths}
use Rattle.rules.specs.declared.Description.{Description}
use Rattle.rules.specs.declared.Domain.{Domain}
use Rattle.rules.specs.declared.Kind.{Kind}
use Rattle.rules.specs.declared.Kind.TheVariants.{OneD, ThreeD}
use Rattle.rules.specs.declared.Refusal.TheVariants.{CouldNotBeRead}
use Rattle.rules.proofs.Answers.{looks-is}
use Rattle.rules.proofs.Sound.{sound-of}
use Rattle.rules.proofs.Looking.Brought.{brought-row}
use Rattle.rules.proofs.Looking.Demand3.{own_line, own-point, row_own}
use Rattle.signature.specs.Beyond.{Alike, AlikePixels, AtLower, AtUpper, high, low, same}
use Rattle.signature.proofs.Looking.SamePlaces.{SamePlaces, same-look}
use Rattle.signature.proofs.Looking.OneDomain.{own-some}
use Rattle.std.specs.Prelude.{Err, Some}
use Rattle.rules.specs.Results.{Look}

-- ---- a code at an end

module _ (m : ℕ) (dom : Domain) (c : ℕ) where
  -- 1000·c − lo·M, before it is moved
  abbrev shift : ℤ
  shift = pos (bound_one * c) -ℤ (pos m *ℤ dom.lower.0)

  lower-offset : AtLower m dom c → offset m dom c ≡ 0
  unfolding offset
  lower-offset h =
      let low = pos m *ℤ dom.lower.0 in
      omega (arith, H.le h, H.sum (pos (bound_one * c)) (neg_ℤ low), H.neg low, H.split shift)

  upper-offset : AtUpper m dom c → offset m dom c ≡ den m dom
  unfolding offset
  upper-offset h =
      let lower = dom.lower.0 in
      let upper = dom.upper.0 in
      let low = pos m *ℤ lower in
      let wide = upper -ℤ lower in
      NatL.min-eq_left
      (omega (
        arith,
        H.le h,
        H.sum (pos (bound_one * c)) (neg_ℤ low),
        H.neg low,
        H.split shift,
        H.times m lower,
        H.times m upper,
        H.times m wide,
        H.split (pos m *ℤ wide),
        simp NatL.mul-add at (ap (λ x. m * x) (H.sum upper (neg_ℤ lower))),
        ap (λ x. m * x) (H.neg lower).ups,
        ap (λ x. m * x) (H.neg lower).dns,
      ))

  -- a code whose value is the lower bound or below it has position 0
  pub lower-position : (n : ℕ) → AtLower m dom c → position m dom n c ≡ 0
  unfolding position
  lower-position n h = ap (λ a. a * (n - 1)) (lower-offset h) ∙ NatL.zero-mul (n - 1)

  -- one whose value is the upper bound or above it has position (N − 1)·D
  pub upper-position : (n : ℕ) → AtUpper m dom c → position m dom n c ≡ (n - 1) * den m dom
  unfolding position
  upper-position n h = ap (λ a. a * (n - 1)) (upper-offset h) ∙ NatL.mul_comm (den m dom) (n - 1)

-- ---- codes that are alike, each colour by itself

-- they are moved to the same place
alike-offset : (m : ℕ) (dom : Domain) {a b : ℕ} → Alike m dom a b → offset m dom a ≡ offset m dom b
alike-offset m dom (same e) = ap (offset m dom) e
alike-offset m dom {a} {b} (low p q) = lower-offset m dom a p ∙ sym (lower-offset m dom b q)
alike-offset m dom {a} {b} (high p q) = upper-offset m dom a p ∙ sym (upper-offset m dom b q)

module _ (m : ℕ) (dom : Domain) (n : ℕ) {a b : ℕ} (alike : Alike m dom a b) where
  alike-position : position m dom n a ≡ position m dom n b
  unfolding position
  alike-position = ap (λ o. o * (n - 1)) (alike-offset m dom alike)

  alike-index : index m dom n a ≡ index m dom n b
  unfolding index
  alike-index = ap (λ p. min (p / den m dom) (n - 2)) alike-position

  alike-fraction : fraction m dom n a ≡ fraction m dom n b
  unfolding fraction
  alike-fraction = ap₂ (λ p i. p - i * den m dom) alike-position alike-index

alike-places : {m : ℕ} {d : Description} {a b : Codes} → AlikePixels m d a b → SamePlaces m d d a b
alike-places {m} {d} h = record {
  kind = refl;
  n = refl;
  inside = h.a_within ∙ sym h.b_within;
  dens = λ c. refl;
  indices = λ c. alike-index m (domain d c) d.n (h.alike c);
  fractions = λ c. ap (brought (den m (domain d c)) (den_of d m c)) (alike-fraction m (domain d c) d.n (h.alike c));
}

module _ (d : Description) (table : List ℤ) (bits : Bits) {depths : Depths} (known : depths_of bits ≡ Some depths) {a b : Codes}
    (alike : AlikePixels (raw_m depths) d a b)
  where
    -- look answers the same of both: codes, rows and weights
    pub beyond-alike : look d table bits a ≡ look d table bits b
    unfolding look
    beyond-alike =
        ap (λ x. cond (could_be_read d table) x (Err CouldNotBeRead))
        (ap (look_at d table a) known ∙ same-look table depths (alike-places alike) ∙ sym (ap (look_at d table b) known))

    -- and so does every call that keeps its promise
    pub looks-alike : {r s : Look} → Looks d table bits a r → Looks d table bits b s → r ≡ s
    looks-alike p q = looks-is p ∙ beyond-alike ∙ sym (looks-is q)

-- ---- the exact value there: that row's sample by itself, with all of D as its weight

-- N − 1 along each axis is the last row
last-own : (k : Kind) (n : ℕ) (c : Colour) → 2 ≤ n → row_own k n (λ _. n - 1) c ≡ rows_of k n - 1
last-own OneD n c h = refl
last-own ThreeD n c h =
    let e : n ≡ suc (n - 1) = omega arith in
    omega (arith, ap (λ x. n * x) e ∙ NatL.mul-suc n (n - 1), ap (λ x. n * n * x) e ∙ NatL.mul-suc (n * n) (n - 1))

-- and 0 along each the first
first-own : (k : Kind) (n : ℕ) (c : Colour) → row_own k n (λ _. 0) c ≡ 0
first-own OneD n c = refl
first-own ThreeD n c = omega (arith, NatL.mul-zero n, NatL.mul-zero (n * n))

-- for whatever could have been read; the M of every known depth is above 0
module _ (d : Description) (table : List ℤ) (m : ℕ) (pixel : Codes) (could : could_be_read d table ≡ true) (deep : 0 < m) where
  own_row : (j : ℕ) (k : Colour) → position m (domain d k) d.n (code_in pixel k) ≡ j * den m (domain d k) → position_of d m pixel k ≡ j * den_of d m k
  own_row j k e =
      let own = den m (domain d k) in
      ap (brought own (den_of d m k)) e ∙ brought-row own (den_of d m k) (own-some d table m could deep k) j

  lower-row : (k : Colour) → AtLower m (domain d k) (code_in pixel k) → position_of d m pixel k ≡ 0 * den_of d m k
  lower-row k h = own_row 0 k (lower-position m (domain d k) (code_in pixel k) d.n h ∙ sym (NatL.zero-mul (den m (domain d k))))

  upper-row : (k : Colour) → AtUpper m (domain d k) (code_in pixel k) → position_of d m pixel k ≡ (d.n - 1) * den_of d m k
  upper-row k h = own_row (d.n - 1) k (upper-position m (domain d k) (code_in pixel k) d.n h)

  -- a pixel each of whose codes is at its colour's lower bound or below has the first row's samples
  pub first-row : ((k : Colour) → AtLower m (domain d k) (code_in pixel k)) → (c : Colour)
      → total table c (shares_for d m pixel d.kind c) ≡ pos (den_of d m c) *ℤ sample_at table 0 c
  first-row h c =
      own-point d table m pixel could deep (λ _. 0) (λ k. lower-row k (h k)) c
      ∙ ap (λ r. pos (den_of d m c) *ℤ sample_at table r c) (first-own d.kind d.n c)

  -- and one each of whose codes is at the upper bound or above has the last row's
  pub last_row : ((k : Colour) → AtUpper m (domain d k) (code_in pixel k)) → (c : Colour)
      → total table c (shares_for d m pixel d.kind c) ≡ pos (den_of d m c) *ℤ sample_at table (rows d - 1) c
  last_row h c =
      own-point d table m pixel could deep (λ _. d.n - 1) (λ k. upper-row k (h k)) c
      ∙ ap (λ r. pos (den_of d m c) *ℤ sample_at table r c) (last-own d.kind d.n c (sound-of d table could).least)

  -- ---- in 1D each colour by itself, whatever the others are

  module _ (line : d.kind ≡ OneD) (c : Colour) where
    -- at the lower bound or below, the sample of row 0
    pub first-row-1d : AtLower m (domain d c) (code_in pixel c) → total table c (shares_for d m pixel d.kind c) ≡ pos (den_of d m c) *ℤ sample_at table 0 c
    first-row-1d h = own_line d table m pixel could deep line 0 c (lower-row c h)

    -- at the upper bound or above, the sample of row N − 1
    pub last-row-1d : AtUpper m (domain d c) (code_in pixel c) → total table c (shares_for d m pixel d.kind c) ≡ pos (den_of d m c) *ℤ sample_at table (d.n - 1) c
    last-row-1d h = own_line d table m pixel could deep line (d.n - 1) c (upper-row c h)
