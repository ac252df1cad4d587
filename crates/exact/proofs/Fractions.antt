-- Integers over natural numbers, by their halves: an equation between products is one for each half. So S / E has one form in lowest terms.
use Prim.Native.Nat.{ℕ, suc, ◌*◌, ◌/◌, ◌∣◌, ◌≤◌, ◌<◌}
use mathlib.Core.Path.{◌≡◌, refl, sym, ap, subst, ◌∙◌}
use native.Mathlib.Nat as NatL
use native.Mathlib.Omega.{arith}
use lib.IntN.{ℤ, pos, negsuc, nat_abs, ◌*ℤ◌}
use lib.Signed.{quot_z}
use Rattle.whole.specs.Integers.{up, dn}
use Rattle.whole.specs.Divisors.{gcd}
use Rattle.whole.specs.declared.Whole.{Whole}
use Rattle.whole.proofs.Halves as H
use Rattle.whole.proofs.Held.{quot-size}
use Rattle.exact.specs.Values.{LowestTerms}
use Rattle.exact.specs.declared.ratio.Ratio.{Ratio}
use Rattle.exact.proofs.CommonDivisors.{divides-both, divides-other, reduced, same-bottom}

-- ---- products and quotients by a natural number, half by half

pub by-pos : (z : ℤ) (w : ℕ) → H.Halves (z *ℤ pos w) (up z * w) (dn z * w)
by-pos z w = record { ups = omega (arith, H.product z (pos w)); dns = omega (arith, H.product z (pos w)) }

-- times −1
pub turned : (z : ℤ) → H.Halves (z *ℤ negsuc 0) (dn z) (up z)
turned z = record { ups = omega (arith, H.product z (negsuc 0)); dns = omega (arith, H.product z (negsuc 0)) }

same-halves : {a b : ℤ} {u d v w : ℕ} → H.Halves a u d → H.Halves b v w → u ≡ v → d ≡ w → a ≡ b
same-halves {a} {b} p q above below = H.eq-by a b (omega (arith, p.ups, p.dns, q.ups, q.dns))

quot-halves : (z : ℤ) (g : ℕ) → H.Halves (quot_z z (pos g)) (up z / g) (dn z / g)
quot-halves (pos a) g = record { ups = refl; dns = sym (NatL.zero-div g) }
quot-halves (negsuc a) g = record { ups = (H.neg (pos (suc a / g))).ups ∙ sym (NatL.zero-div g); dns = (H.neg (pos (suc a / g))).dns }

halves-divided : (z : ℤ) (g : ℕ) → g ∣ nat_abs z → (up z / g * g ≡ up z) × (dn z / g * g ≡ dn z)
halves-divided (pos a) g d = (NatL.div-mul_cancel g d, NatL.div-mul_cancel g (NatL.dvd-zero g))
halves-divided (negsuc a) g d = (NatL.div-mul_cancel g (NatL.dvd-zero g), NatL.div-mul_cancel g d)

-- x / b and y / c are the same number, h / e
crossed : (x y h b c e : ℕ) → 0 < e → x * e ≡ h * b → y * e ≡ h * c → x * c ≡ y * b
crossed x y h b c e some p q =
    NatL.eq_of_mul-eq-mul_right e some (x * c) (y * b) (omega (arith, ap (λ n. n * c) p, ap (λ n. n * b) q))

-- two integers over b and c that are both s / e
module _ (x y s : ℤ) (b c e : ℕ) (some : 0 < e) (p : x *ℤ pos e ≡ s *ℤ pos b) (q : y *ℤ pos e ≡ s *ℤ pos c) where
  crossed-up : up x * c ≡ up y * b
  crossed-up =
      crossed (up x) (up y) (up s) b c e some
      (sym (by-pos x e).ups ∙ ap up p ∙ (by-pos s b).ups) (sym (by-pos y e).ups ∙ ap up q ∙ (by-pos s c).ups)

  crossed-dn : dn x * c ≡ dn y * b
  crossed-dn =
      crossed (dn x) (dn y) (dn s) b c e some
      (sym (by-pos x e).dns ∙ ap dn p ∙ (by-pos s b).dns) (sym (by-pos y e).dns ∙ ap dn q ∙ (by-pos s c).dns)

-- ---- in lowest terms

-- a number times another that is divided
exchanged : (x y g : ℕ) → x / g * g ≡ x → y / g * g ≡ y → x / g * y ≡ x * (y / g)
exchanged x y g p q = omega (arith, ap (λ n. n * (y / g)) p, ap (λ n. n * (x / g)) q)

-- both parts divided by their common divisor
pub divided : (s : ℤ) (e g : ℕ) (top : Whole) → 0 < e → g ≡ gcd (nat_abs s) e → top.0 ≡ quot_z s (pos g) → LowestTerms s e (record { top = top; bottom = e / g })
divided s e g top some is t =
    subst (λ g. top.0 ≡ quot_z s (pos g) → LowestTerms s e (record { top = top; bottom = e / g })) (sym is) at-gcd t
  where
    at-gcd : top.0 ≡ quot_z s (pos (gcd (nat_abs s) e)) → LowestTerms s e (record { top = top; bottom = e / gcd (nat_abs s) e })
    at-gcd t =
        let g = gcd (nat_abs s) e in
        let f = reduced (nat_abs s) e some in
        let (above, below) = halves-divided s g (divides-both (nat_abs s) e).0 in
        let ups : up top.0 ≡ up s / g = ap up t ∙ (quot-halves s g).ups in
        let dns : dn top.0 ≡ dn s / g = ap dn t ∙ (quot-halves s g).dns in
        record {
          some = f.there;
          same =
              same-halves (by-pos top.0 e) (by-pos s (e / g))
              (ap (λ n. n * e) ups ∙ exchanged (up s) e g above f.bottom) (ap (λ n. n * e) dns ∙ exchanged (dn s) e g below f.bottom);
          lowest = ap (λ x. gcd x (e / g)) (ap nat_abs t ∙ quot-size s g) ∙ f.lowest;
        }

-- the bottom divides E
pub bottom_most : {s : ℤ} {e : ℕ} {r : Ratio} → 0 < e → LowestTerms s e r → r.bottom ≤ e
bottom_most {s} {e} {r} some p =
    let x = r.top.0 in
    let sizes : nat_abs x * e ≡ nat_abs s * r.bottom = sym (H.product-abs x (pos e)) ∙ ap nat_abs p.same ∙ H.product-abs s (pos r.bottom) in
    let product = subst (λ n. r.bottom ∣ n) (sym sizes) (NatL.dvd-mul_left r.bottom (nat_abs s)) in
    NatL.le_of_dvd some (divides-other (nat_abs x) r.bottom e p.lowest product)

-- and no other ratio is
pub lowest-one : {s : ℤ} {e : ℕ} {r t : Ratio} → 0 < e → LowestTerms s e r → LowestTerms s e t → r ≡ t
lowest-one {s} {e} {r} {t} some p q =
    let x = r.top.0 in
    let y = t.top.0 in
    let above = crossed-up x y s r.bottom t.bottom e some p.same q.same in
    let below = crossed-dn x y s r.bottom t.bottom e some p.same q.same in
    let sizes : nat_abs x * t.bottom ≡ nat_abs y * r.bottom = omega (arith, above, below, ap (λ n. n * t.bottom) (H.split x).size, ap (λ n. n * r.bottom) (H.split y).size) in
    let bottoms = same-bottom (nat_abs x) (nat_abs y) r.bottom t.bottom p.lowest q.lowest sizes in
    let ups : up x ≡ up y = NatL.eq_of_mul-eq-mul_right r.bottom p.some _ _ (ap (λ b. up x * b) bottoms ∙ above) in
    let dns : dn x ≡ dn y = NatL.eq_of_mul-eq-mul_right r.bottom p.some _ _ (ap (λ b. dn x * b) bottoms ∙ below) in
    same-ratio (H.eq-by x y (omega (arith, ups, dns))) bottoms
  where
    same-ratio : r.top.0 ≡ t.top.0 → r.bottom ≡ t.bottom → r ≡ t
    same-ratio p q i = record { top = record { 0 = p i }; bottom = q i }
