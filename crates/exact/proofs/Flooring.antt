-- Rounded down: the quotient and the rest of the size, and below 0 the quotient turned round, with one less where something is left.
use Prim.Native.Nat.{ℕ, suc, ◌+◌, ◌-◌, ◌*◌, ◌/◌, ◌%◌, ◌≤◌, ◌<◌}
use mathlib.Core.Path.{◌≡◌, ap, ◌∙◌}
use native.Mathlib.Nat as NatL
use native.Mathlib.Omega.{arith}
use lib.IntN.{ℤ, pos, negsuc, nat_abs, ◌+ℤ◌, ◌*ℤ◌}
use Rattle.whole.specs.Integers.{up, dn}
use Rattle.whole.specs.declared.Whole.{Whole}
use Rattle.whole.proofs.Halves as H
use Rattle.exact.specs.Values.{RoundedDown}
use Rattle.exact.specs.declared.floor.Floor.{Floor}
use Rattle.exact.proofs.Fractions.{by-pos, turned}

by-halves : (s : ℤ) (e : ℕ) (q : Whole) (r : ℕ) → r < e → up s + dn q.0 * e ≡ dn s + (up q.0 * e + r)
    → RoundedDown s e (record { quotient = q; rest = r })
by-halves s e q r below h =
    let whole = by-pos q.0 e in
    record {
      below = below;
      same = H.eq-by s (q.0 *ℤ pos e +ℤ pos r) (omega (arith, h, H.sum (q.0 *ℤ pos e) (pos r), whole.ups, whole.dns));
    }

module _ (s : ℤ) (e size : ℕ) (some : 0 < e) (sized : size ≡ nat_abs s) where
  -- the size is that of one half, and so many times e with a rest
  split : (up s + dn s ≡ size) × ((size / e * e + size % e ≡ size) × (size % e < e))
  split = (omega (arith, sized, H.split s), (NatL.div-add-mod' size e, NatL.mod-lt size some))

  pub not-below : dn s ≡ 0 → (q : Whole) → q.0 ≡ pos (size / e) → RoundedDown s e (record { quotient = q; rest = size % e })
  not-below h q is =
      let (whole, (parts, rest)) = split in
      by-halves s e q (size % e) rest (omega (arith, whole, parts, h, ap (λ z. up z * e) is, ap (λ z. dn z * e) is))

  module _ (h : up s ≡ 0) (q t : Whole) (is : q.0 ≡ pos (size / e)) (back : t.0 ≡ q.0 *ℤ negsuc 0) where
    ups : up t.0 ≡ 0
    ups = ap up back ∙ (turned q.0).ups ∙ ap dn is

    dns : dn t.0 ≡ size / e
    dns = ap dn back ∙ (turned q.0).dns ∙ ap up is

    pub below-evenly : size % e ≡ 0 → RoundedDown s e (record { quotient = t; rest = size % e })
    below-evenly none =
        let (whole, (parts, rest)) = split in
        by-halves s e t (size % e) rest (omega (arith, whole, parts, h, none, ap (λ n. n * e) ups, ap (λ n. n * e) dns))

    pub below-unevenly : 0 < size % e → (less : Whole) → less.0 ≡ t.0 +ℤ negsuc 0 → RoundedDown s e (record { quotient = less; rest = e - size % e })
    below-unevenly left less one =
        let (whole, (parts, rest)) = split in
        let step : up less.0 + (size / e + 1) ≡ dn less.0 = omega (arith, H.sum t.0 (negsuc 0), ap up one, ap dn one, ups, dns) in
        by-halves s e less (e - size % e) (omega (arith, rest, left)) (omega (arith, whole, parts, rest, h, ap (λ n. n * e) step))

-- ---- what follows from it

module _ {s : ℤ} {e : ℕ} {f : Floor} (p : RoundedDown s e f) where
  -- the equation in natural numbers: what is below 0 on either side stands on the other
  pub in_halves : up s + dn f.quotient.0 * e ≡ dn s + (up f.quotient.0 * e + f.rest)
  in_halves =
      let a = f.quotient.0 in
      let back = by-pos a e in
      omega (arith, ap up p.same, ap dn p.same, H.sum (a *ℤ pos e) (pos f.rest), back.ups, back.dns)

  -- the quotient is no farther from 0 than S / E
  pub quotient-most : (n : ℕ) → nat_abs s ≤ n * e → nat_abs f.quotient.0 ≤ n
  quotient-most n h = by f.quotient.0 in_halves
    where
      by : (a : ℤ) → up s + dn a * e ≡ dn s + (up a * e + f.rest) → nat_abs a ≤ n
      by (pos k) same = NatL.le_of_mul-le-mul_right {k = e} (omega (arith, same, h, H.split s)) (omega (arith, p.below))
      by (negsuc k) same =
          let less : suc k * e < suc n * e = omega (arith, same, h, H.split s, p.below) in
          omega (arith, NatL.lt_of_mul-lt-mul_right e less)
