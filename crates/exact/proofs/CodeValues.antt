-- The value as a code is M·a + p·b / unit, for S = a·E + b; it has one form only; and how great its parts are.
use Prim.Native.Nat.{ℕ, ◌+◌, ◌*◌, ◌/◌, ◌%◌, ◌∣◌, ◌≤◌, ◌<◌}
use mathlib.Core.Path.{◌≡◌, refl, sym, ap, subst, subst₂, ◌∙◌}
use native.Mathlib.Nat as NatL
use native.Mathlib.Omega.{arith}
use lib.IntN.{ℤ, pos, negsuc, nat_abs, ◌+ℤ◌, ◌*ℤ◌}
use Rattle.whole.specs.Integers.{up, dn}
use Rattle.whole.specs.Divisors.{euclid, gcd}
use Rattle.whole.specs.declared.Whole.{Whole}
use Rattle.whole.proofs.Halves as H
use Rattle.exact.specs.Values.{RoundedDown, units, CodeValue}
use Rattle.exact.specs.declared.codes.InCodes.{InCodes}
use Rattle.exact.specs.declared.floor.Floor.{Floor}
use Rattle.exact.proofs.CommonDivisors.{reduced, divides-other, same-bottom}
use Rattle.exact.proofs.Flooring.{in_halves}
use Rattle.exact.proofs.Fractions.{by-pos}

-- ---- the value's equation in natural numbers: what is below 0 on either side stands on the other

-- (above − below + rest / unit) · e = high − low
abbrev Sides : ℕ → ℕ → ℕ → ℕ → ℕ → ℕ → ℕ → Type 0
Sides above below high low e rest unit = (above * unit + rest) * e + low * unit ≡ high * unit + below * unit * e

abbrev pub Equal : ℤ → ℕ → ℕ → ℤ → ℕ → ℕ → Type 0
Equal s e m w rest unit = Sides (up w) (dn w) (m * up s) (m * dn s) e rest unit

-- how many units it is, by its halves
pub units-halves : (v : InCodes) → up (units v) + dn v.whole.0 * v.unit ≡ dn (units v) + (up v.whole.0 * v.unit + v.rest)
units-halves v =
    let whole = by-pos v.whole.0 v.unit in
    omega (arith, H.sum (v.whole.0 *ℤ pos v.unit) (pos v.rest), whole.ups, whole.dns)

module _ (s : ℤ) (e m : ℕ) (v : InCodes) where
  -- m·s over the unit, by its halves
  sides : H.Halves ((pos m *ℤ s) *ℤ pos v.unit) (m * up s * v.unit) (m * dn s * v.unit)
  sides =
      let product = by-pos (pos m *ℤ s) v.unit in
      record { ups = product.ups ∙ ap (λ n. n * v.unit) (H.times m s).ups; dns = product.dns ∙ ap (λ n. n * v.unit) (H.times m s).dns }

  pub equal : units v *ℤ pos e ≡ (pos m *ℤ s) *ℤ pos v.unit → Equal s e m v.whole.0 v.rest v.unit
  equal same =
      let ups : up (units v) * e ≡ m * up s * v.unit = sym (by-pos (units v) e).ups ∙ ap up same ∙ sides.ups in
      let dns : dn (units v) * e ≡ m * dn s * v.unit = sym (by-pos (units v) e).dns ∙ ap dn same ∙ sides.dns in
      omega (arith, ups, dns, ap (λ n. n * e) (units-halves v))

  equal_by : Equal s e m v.whole.0 v.rest v.unit → units v *ℤ pos e ≡ (pos m *ℤ s) *ℤ pos v.unit
  equal_by h =
      let l = by-pos (units v) e in
      H.eq-by (units v *ℤ pos e) ((pos m *ℤ s) *ℤ pos v.unit)
      (omega (arith, h, ap (λ n. n * e) (units-halves v), l.ups, l.dns, sides.ups, sides.dns))

-- the rest and the unit may be divided by a number that goes into both; and two values are held to each other
module _ (above below high low e : ℕ) where
  in-less : (r u g : ℕ) → 0 < g → Sides above below high low e (r * g) (u * g) → Sides above below high low e r u
  in-less r u g some h = NatL.eq_of_mul-eq-mul_right g some _ _ (by h)
    where
      by : Sides above below high low e (r * g) (u * g) → ((above * u + r) * e + low * u) * g ≡ (high * u + below * u * e) * g
      by h = omega arith

  beside : (above' below' r u r' u' : ℕ) → Sides above below high low e r u → Sides above' below' high low e r' u'
      → ((above + below') * (u * u') + r * u') * e ≡ ((above' + below) * (u * u') + r' * u) * e
  beside above' below' r u r' u' h k = omega (arith, ap (λ n. n * u') h, ap (λ n. n * u) k)

-- ---- how it is computed

module _ (s : ℤ) (e p unit m : ℕ) (in_terms : p * e ≡ m * unit) (floor : Floor) (down : RoundedDown s e floor) where
  abbrev product : ℕ
  product = p * floor.rest

  before-terms : (w : ℤ) → w ≡ pos m *ℤ floor.quotient.0 +ℤ pos (product / unit) → Equal s e m w (product % unit) unit
  before-terms w is =
      let a = floor.quotient.0 in
      let b = floor.rest in
      let q = product / unit in
      let whole : up w + m * dn a ≡ dn w + (m * up a + q) = omega (arith, ap up is, ap dn is, H.sum (pos m *ℤ a) (pos q), H.times m a) in
      omega (
        arith,
        ap (λ n. n * (unit * e)) whole,
        ap (λ n. n * e) (NatL.div-add-mod' product unit),
        ap (λ n. n * b) in_terms,
        ap (λ n. n * (m * unit)) (in_halves down),
      )

  pub value-computed : 0 < unit → (whole : Whole) → whole.0 ≡ pos m *ℤ floor.quotient.0 +ℤ pos (product / unit) → (g : ℕ) → g ≡ gcd (product % unit) unit
      → CodeValue s e m (record { whole = whole; rest = product % unit / g; unit = unit / g })
  value-computed some whole is g found = subst (λ g. CodeValue s e m (record { whole = whole; rest = product % unit / g; unit = unit / g })) (sym found) in-lowest
    where
      in-lowest : let g = gcd (product % unit) unit in CodeValue s e m (record { whole = whole; rest = product % unit / g; unit = unit / g })
      in-lowest =
          let rest = product % unit in
          let g = gcd rest unit in
          let f = reduced rest unit some in
          let u = unit / g in
          let r = rest / g in
          let w = whole.0 in
          let less : r * g < u * g = omega (arith, f.top, f.bottom, NatL.mod-lt product some) in
          record {
            below = NatL.lt_of_mul-lt-mul_right g less;
            same =
                equal_by s e m (record { whole = whole; rest = r; unit = u })
                (in-less (up w) (dn w) (m * up s) (m * dn s) e r u g f.some (subst₂ (Equal s e m w) (sym f.top) (sym f.bottom) (before-terms w is)));
            lowest = f.lowest;
          }

-- ---- it is one only

-- a quotient and its rest
pub quotient-one : (a b u x y : ℕ) → x < u → y < u → a * u + x ≡ b * u + y → (a ≡ b) × (x ≡ y)
quotient-one a b u x y p q h =
    let some : 0 < u = omega arith in
    let left = NatL.mul-add-div_right some a x in
    let right = NatL.mul-add-div_right some b y in
    let quotient : a ≡ b = omega (arith, left, right, NatL.div-eq_of_lt p, NatL.div-eq_of_lt q, ap (λ n. n / u) h) in
    (quotient, omega (arith, h, ap (λ n. n * u) quotient))

module _ {s : ℤ} {e m : ℕ} (some : 0 < e) where
  unit-there : {v : InCodes} → CodeValue s e m v → 0 < v.unit
  unit-there p = omega (arith, p.below)

  -- over both units together
  together : {v t : InCodes} → CodeValue s e m v → CodeValue s e m t → let x = v.whole.0 in let y = t.whole.0 in
      (up x + dn y) * (v.unit * t.unit) + v.rest * t.unit ≡ (up y + dn x) * (v.unit * t.unit) + t.rest * v.unit
  together {v} {t} p q =
      let x = v.whole.0 in
      let y = t.whole.0 in
      NatL.eq_of_mul-eq-mul_right e some _ _
      (beside (up x) (dn x) (m * up s) (m * dn s) e (up y) (dn y) v.rest v.unit t.rest t.unit (equal s e m v p.same) (equal s e m t q.same))

  pub value-one : {v t : InCodes} → CodeValue s e m v → CodeValue s e m t → v ≡ t
  value-one {v} {t} p q =
      let x = v.whole.0 in
      let y = t.whole.0 in
      let less = NatL.mul-lt-mul_of_pos_right p.below (unit-there q) in
      let other : t.rest * v.unit < v.unit * t.unit = omega (arith, NatL.mul-lt-mul_of_pos_right q.below (unit-there p)) in
      let (wholes, rests) = quotient-one (up x + dn y) (up y + dn x) (v.unit * t.unit) (v.rest * t.unit) (t.rest * v.unit) less other (together p q) in
      let units = same-bottom v.rest t.rest v.unit t.unit p.lowest q.lowest rests in
      let tops = NatL.eq_of_mul-eq-mul_right v.unit (unit-there p) v.rest t.rest (ap (λ n. v.rest * n) units ∙ rests) in
      same-value (H.eq-by x y wholes) tops units
    where
      same-value : v.whole.0 ≡ t.whole.0 → v.rest ≡ t.rest → v.unit ≡ t.unit → v ≡ t
      same-value w r u i = record { whole = record { 0 = w i }; rest = r i; unit = u i }

-- ---- how great it is

module _ {s : ℤ} {e m : ℕ} {v : InCodes} (some : 0 < e) (p : CodeValue s e m v) where
  -- the unit divides E
  pub unit_most : v.unit ≤ e
  unit_most =
      let w = v.whole.0 in
      let u = v.unit in
      let sum : (up w * e + m * dn s) * u + v.rest * e ≡ (m * up s + dn w * e) * u = omega (arith, equal s e m v p.same) in
      let all : u ∣ (up w * e + m * dn s) * u + v.rest * e = subst (λ n. u ∣ n) (sym sum) (NatL.dvd-mul_left u (m * up s + dn w * e)) in
      NatL.le_of_dvd some (divides-other v.rest u e p.lowest ((NatL.dvd-add_iff_right u (NatL.dvd-mul_left u (up w * e + m * dn s))).1 all))

  -- where S is at most n times E, the whole is at most one beyond n times M
  pub whole_most : (n : ℕ) → nat_abs s ≤ n * e → nat_abs v.whole.0 ≤ m * n + 1
  whole_most n h =
      let u = v.unit in
      let ups : m * up s * u ≤ m * (n * e) * u = NatL.mul-le-mul_right u (NatL.mul-le-mul_left m (omega (arith, h, H.split s))) in
      let dns : m * dn s * u ≤ m * (n * e) * u = NatL.mul-le-mul_right u (NatL.mul-le-mul_left m (omega (arith, h, H.split s))) in
      let rest : v.rest * e ≤ u * e = NatL.mul-le-mul_right e (NatL.le_of_lt p.below) in
      NatL.le_of_mul-le-mul_right (by n v.whole.0 (equal s e m v p.same) ups dns rest) (NatL.mul-pos (unit-there some p) some)
    where
      by : (n : ℕ) (w : ℤ) → Equal s e m w v.rest v.unit → m * up s * v.unit ≤ m * (n * e) * v.unit → m * dn s * v.unit ≤ m * (n * e) * v.unit
          → v.rest * e ≤ v.unit * e → nat_abs w * (v.unit * e) ≤ (m * n + 1) * (v.unit * e)
      by n (pos k) h ups dns rest = omega arith
      by n (negsuc k) h ups dns rest = omega arith

-- ---- worked examples: 255 times −1 / 2 is −127.5, which is −128 and a half; 255 times 2 / 3 is 170

half-below-0 : CodeValue (negsuc 0) 2 255 (record { whole = record { 0 = negsuc 127 }; rest = 1; unit = 2 })
unfolding euclid
half-below-0 = record { below = omega arith; same = refl; lowest = refl }

no-rest : CodeValue (pos 2) 3 255 (record { whole = record { 0 = pos 170 }; rest = 0; unit = 1 })
unfolding euclid
no-rest = record { below = omega arith; same = refl; lowest = refl }
