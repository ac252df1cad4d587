-- How the nearest code was settled: the code that is given is the one that the answer tells.
use Prim.Native.Nat.{ℕ, ◌+◌, ◌*◌, ◌/◌, ◌%◌, ◌≤◌, ◌<◌}
use mathlib.Core.Path.{◌≡◌, refl, sym, ap, subst, ◌∙◌}
use mathlib.Core.Bool.{Bool, true, false, cond}
use native.Mathlib.Nat as NatL
use native.Mathlib.Decide.{dec_lt}
use native.Mathlib.Omega.{arith}
use borrow.Author.Tests.{eqb-true, eqb-false, ltb-true, ltb-false, eq-eqb, ne_eqb, le-ltb}
use lib.Dec.{eqb, ltb}
use lib.IntN.{ℤ, pos, negsuc, neg_ℤ, nat_abs, ◌+ℤ◌, ◌-ℤ◌, ◌*ℤ◌}
use lib.Signed.{lt_z, lt_z_yes, lt_z_no}
use Rattle.whole.specs.Integers.{up, dn}
use Rattle.whole.specs.Nearest.{dist, code}
use Rattle.whole.proofs.Halves as H
use Rattle.whole.proofs.Held.{passed, failed}
use Rattle.whole.proofs.NearestLaws.{code-top, code-low, code-high}
use Rattle.exact.specs.Values.{CodeValue, settled_as, settled_code}
use Rattle.exact.specs.declared.codes.InCodes.{InCodes}
use Rattle.exact.specs.declared.settled.Settled.TheVariants.{Exactly, Nearest, TieUpward, ClippedAtZero, ClippedAtMost}
use Rattle.exact.proofs.CodeValues.{Equal, equal}

-- ---- the two bounds that fix the code

code_is : (z : ℤ) (e m r : ℕ) → 0 < e → r ≤ m → 2 * (r * e) ≤ 2 * up z + e → (r < m → 2 * up z + e < 2 * (r * e) + 2 * e) → code z e m ≡ r
code_is z e m r some top low high = by (dec_lt (code z e m) r) (dec_lt r (code z e m))
  where
    apart : (a b : ℕ) → a < b → a * e + e ≤ b * e
    apart a b h = omega (arith, NatL.mul-le-mul_right e h, NatL.suc-mul a e)

    by : Dec (code z e m < r) → Dec (r < code z e m) → code z e m ≡ r
    by (yes h) d = absurd (omega (arith, low, code-high z e m some (omega (arith, h, top)), apart _ _ h))
    by (no g) (yes h) = absurd (omega (arith, code-low z e m, high (omega (arith, h, code-top z e m)), apart _ _ h))
    by (no g) (no h) = omega (arith, g, h)

-- ---- outside the codes

module _ (s : ℤ) (e m : ℕ) (some : 0 < e) where
  numerator : up (pos m *ℤ s) ≡ m * up s
  numerator = (H.times m s).ups

  below-0 : up s ≡ 0 → code (pos m *ℤ s) e m ≡ 0
  below-0 h =
      let none : up (pos m *ℤ s) ≡ 0 = omega (arith, numerator, ap (λ n. m * n) h) in
      code_is _ e m 0 some (omega arith) (omega (arith, none)) (λ _. omega (arith, none))

  above-1 : e ≤ up s → code (pos m *ℤ s) e m ≡ m
  above-1 h = code_is _ e m m some (NatL.le_refl m) (omega (arith, numerator, NatL.mul-le-mul_left m h)) (λ less. absurd (omega arith))

-- ---- inside them: the value is w + r / u, and at most m

module _ (z : ℤ) (w r u e m t : ℕ) (some : 0 < e) (rest : r < u) (is : up z ≡ m * t) (inside : t ≤ e) (same : (w * u + r) * e ≡ m * t * u) where
  most : m * t * u ≤ m * e * u
  most = NatL.mul-le-mul_right u (NatL.mul-le-mul_left m inside)

  down : 2 * r < u → code z e m ≡ w
  down h =
      let less : 2 * r * e < u * e = NatL.mul-lt-mul_of_pos_right h some in
      let top : w * (u * e) ≤ m * (u * e) = omega (arith, same, most) in
      let low : 2 * (w * e) * u ≤ (2 * (m * t) + e) * u = omega (arith, same) in
      let high : (2 * (m * t) + e) * u < (2 * (w * e) + 2 * e) * u = omega (arith, same, less) in
      code_is z e m w some
      (NatL.le_of_mul-le-mul_right top (NatL.mul-pos {m = u} {n = e} (omega (arith, rest)) some))
      (subst (λ n. 2 * (w * e) ≤ 2 * n + e) (sym is) (NatL.le_of_mul-le-mul_right low (omega (arith, rest))))
      (λ _. subst (λ n. 2 * n + e < 2 * (w * e) + 2 * e) (sym is) (NatL.lt_of_mul-lt-mul_right u high))

  upward : u ≤ 2 * r → code z e m ≡ w + 1
  upward h =
      let more : u * e ≤ 2 * r * e = NatL.mul-le-mul_right e h in
      let less : r * e < u * e = NatL.mul-lt-mul_of_pos_right rest some in
      let left : 0 < r * e = NatL.mul-pos {m = r} {n = e} (omega (arith, rest, h)) some in
      let top : w * (u * e) < m * (u * e) = omega (arith, same, most, left) in
      let low : 2 * ((w + 1) * e) * u ≤ (2 * (m * t) + e) * u = omega (arith, same, more) in
      let high : (2 * (m * t) + e) * u < (2 * ((w + 1) * e) + 2 * e) * u = omega (arith, same, less) in
      code_is z e m (w + 1) some
      (omega (arith, NatL.lt_of_mul-lt-mul_right (u * e) top))
      (subst (λ n. 2 * ((w + 1) * e) ≤ 2 * n + e) (sym is) (NatL.le_of_mul-le-mul_right low (omega (arith, rest))))
      (λ _. subst (λ n. 2 * n + e < 2 * ((w + 1) * e) + 2 * e) (sym is) (NatL.lt_of_mul-lt-mul_right u high))

-- ---- the law

module _ {s : ℤ} {e m : ℕ} {v : InCodes} (some : 0 < e) (p : CodeValue s e m v) where
  abbrev given : ℕ
  given = code (pos m *ℤ s) e m

  module _ (low : dn s ≡ 0) (high : up s ≤ e) where
    -- the whole is not below 0
    whole_there : v.whole.0 ≡ pos (up v.whole.0)
    whole_there = by v.whole.0 (equal s e m v p.same)
      where
        by : (w : ℤ) → Equal s e m w v.rest v.unit → w ≡ pos (up w)
        by (pos k) h = refl
        by (negsuc k) h =
            absurd (omega (arith, h, NatL.mul-lt-mul_of_pos_right p.below some, ap (λ n. m * n * v.unit) low))

    same : (up v.whole.0 * v.unit + v.rest) * e ≡ m * up s * v.unit
    same = omega (arith, equal s e m v p.same, ap (λ n. m * n * v.unit) low, ap (λ z. dn z * v.unit * e) whole_there)

    to_whole : 2 * v.rest < v.unit → pos given ≡ v.whole.0
    to_whole h = ap pos (down (pos m *ℤ s) _ _ _ e m (up s) some p.below (numerator s e m some) high same h) ∙ sym whole_there

    to-next : v.unit ≤ 2 * v.rest → pos given ≡ v.whole.0 +ℤ pos 1
    to-next h =
        ap pos (upward (pos m *ℤ s) _ _ _ e m (up s) some p.below (numerator s e m some) high same h) ∙ ap (λ z. z +ℤ pos 1) (sym whole_there)

  pub settled-code : pos (code (pos m *ℤ s) e m) ≡ settled_code m v (settled_as s e v.rest v.unit)
  unfolding settled_as settled_code
  settled-code = by-below (lt_z s (pos 0)) refl
    where
      by_near : dn s ≡ 0 → up s ≤ e → (t : Bool) → ltb (2 * v.rest) v.unit ≡ t → pos given ≡ cond t v.whole.0 (v.whole.0 +ℤ pos 1)
      by_near low high true q = to_whole low high (ltb-true _ _ q)
      by_near low high false q = to-next low high (ltb-false _ _ q)

      by-half : dn s ≡ 0 → up s ≤ e → (t : Bool) → eqb (2 * v.rest) v.unit ≡ t → pos given ≡ settled_code m v (cond t TieUpward Nearest)
      by-half low high true q = to-next low high (omega (arith, eqb-true (2 * v.rest) v.unit q))
      by-half low high false q = by_near low high _ refl

      by-rest : dn s ≡ 0 → up s ≤ e → (t : Bool) → eqb v.rest 0 ≡ t
          → pos given ≡ settled_code m v (cond t Exactly (cond (eqb (2 * v.rest) v.unit) TieUpward Nearest))
      by-rest low high true q = to_whole low high (omega (arith, eqb-true v.rest 0 q, p.below))
      by-rest low high false q = by-half low high _ refl

      by-above : dn s ≡ 0 → (t : Bool) → lt_z (pos e) s ≡ t
          → pos given ≡ settled_code m v (cond t ClippedAtMost (cond (eqb v.rest 0) Exactly (cond (eqb (2 * v.rest) v.unit) TieUpward Nearest)))
      by-above low true q = ap pos (above-1 s e m some (omega (arith, H.lt {a = pos e} {b = s} (lt_z_yes (passed (lt_z (pos e) s) q)))))
      by-above low false q = by-rest low (omega (arith, low, H.le {a = s} {b = pos e} (lt_z_no (failed (lt_z (pos e) s) q)))) _ refl

      by-below : (t : Bool) → lt_z s (pos 0) ≡ t
          → pos given ≡ settled_code m v (cond t ClippedAtZero (cond (lt_z (pos e) s) ClippedAtMost (cond (eqb v.rest 0) Exactly (cond (eqb (2 * v.rest) v.unit) TieUpward Nearest))))
      by-below true q = ap pos (below-0 s e m some (omega (arith, H.lt {a = s} {b = pos 0} (lt_z_yes (passed (lt_z s (pos 0)) q)), H.split s)))
      by-below false q = by-above (omega (arith, H.le {a = pos 0} {b = s} (lt_z_no (failed (lt_z s (pos 0)) q)), H.split s)) _ refl

-- ---- a tie is one: the two codes are equally near

module _ {s : ℤ} {e m : ℕ} {v : InCodes} (p : CodeValue s e m v) (half : 2 * v.rest ≡ v.unit) (w : ℕ) (is : v.whole.0 ≡ pos w) where
  abbrev off : ℕ → ℤ
  off n = (pos m *ℤ s) -ℤ pos (n * e)

  off-halves : (n : ℕ) → up (off n) + (m * dn s + n * e) ≡ dn (off n) + m * up s
  off-halves n = omega (arith, H.sum (pos m *ℤ s) (neg_ℤ (pos (n * e))), H.neg (pos (n * e)), H.times m s)

  same_sum : (w * v.unit + v.rest) * e + m * dn s * v.unit ≡ m * up s * v.unit
  same_sum = omega (arith, equal s e m v p.same, ap (λ z. up z * v.unit * e) is, ap (λ z. dn z * v.unit * e) is)

  below-value : (d : ℤ) → up d * v.unit ≡ dn d * v.unit + v.rest * e → nat_abs d * v.unit ≡ v.rest * e
  below-value (pos k) h = omega arith
  below-value (negsuc k) h = omega arith

  above-value : (d : ℤ) → dn d * v.unit ≡ up d * v.unit + v.rest * e → nat_abs d * v.unit ≡ v.rest * e
  above-value (pos k) h = omega arith
  above-value (negsuc k) h = omega arith

  pub equally-near : dist (pos m *ℤ s) (w * e) ≡ dist (pos m *ℤ s) ((w + 1) * e)
  equally-near =
      let lower = below-value (off w) (omega (arith, same_sum, ap (λ n. n * v.unit) (off-halves w))) in
      let upper = above-value (off (w + 1)) (omega (arith, same_sum, ap (λ n. n * e) half, ap (λ n. n * v.unit) (off-halves (w + 1)))) in
      NatL.eq_of_mul-eq-mul_right v.unit (omega (arith, p.below)) _ _ (lower ∙ sym upper)

-- ---- the definition, test by test

pub above-test : (e : ℕ) (s : ℤ) → lt_z (pos e) s ≡ ltb e (up s)
above-test e (pos n) = refl
above-test e (negsuc n) = sym (le-ltb e 0 (omega arith))

-- two tests of a half that come to the same
pub half-test : (rest unit : ℕ) → (unit % 2 ≡ 1 → ⊥) → eqb rest (unit / 2) ≡ eqb (2 * rest) unit
half-test rest unit even = by (eqb rest (unit / 2)) refl
  where
    by : (t : Bool) → eqb rest (unit / 2) ≡ t → t ≡ eqb (2 * rest) unit
    by true h = sym (eq-eqb (2 * rest) unit (omega (arith, even, eqb-true rest (unit / 2) h)))
    by false h = sym (ne_eqb (2 * rest) unit (λ is. eqb-false rest (unit / 2) h (omega (arith, is))))

module _ (s : ℤ) (e rest unit : ℕ) where
  pub is-below : lt_z s (pos 0) ≡ true → settled_as s e rest unit ≡ ClippedAtZero
  unfolding settled_as
  is-below low = rw low

  module _ (low : lt_z s (pos 0) ≡ false) where
    pub is-above : lt_z (pos e) s ≡ true → settled_as s e rest unit ≡ ClippedAtMost
    unfolding settled_as
    is-above high = rw (low, high)

    module _ (high : lt_z (pos e) s ≡ false) where
      pub is-exact : eqb rest 0 ≡ true → settled_as s e rest unit ≡ Exactly
      unfolding settled_as
      is-exact none = rw (low, high, none)

      module _ (some : eqb rest 0 ≡ false) where
        pub is-tie : eqb (2 * rest) unit ≡ true → settled_as s e rest unit ≡ TieUpward
        unfolding settled_as
        is-tie half = rw (low, high, some, half)

        pub is-nearest : eqb (2 * rest) unit ≡ false → settled_as s e rest unit ≡ Nearest
        unfolding settled_as
        is-nearest other = rw (low, high, some, other)
