-- How far a code is from the exact value: by how far it is ahead of the whole, and the rest, which counts up below the exact value and down above it.
use Prim.Native.Nat.{ℕ, zero, suc, ◌+◌, ◌-◌, ◌*◌, ◌<◌}
use mathlib.Core.Path.{◌≡◌, sym, ap, ◌∙◌}
use native.Mathlib.Omega.{arith}
use lib.IntN.{ℤ, pos, negsuc, neg_ℤ, nat_abs, ◌+ℤ◌, ◌-ℤ◌, ◌*ℤ◌}
use Rattle.whole.specs.Integers.{up, dn}
use Rattle.whole.proofs.Halves as H
use Rattle.exact.specs.Values.{units, Apart}
use Rattle.exact.specs.declared.codes.InCodes.{InCodes}
use Rattle.exact.specs.declared.distance.Distance.{Distance}
use Rattle.exact.proofs.Fractions.{turned}
use Rattle.exact.proofs.CodeValues.{units-halves, quotient-one}

-- what lies between, by how far the code is ahead of the whole
abbrev Between : ℤ → ℤ → ℕ → ℕ → Type 0
Between far ahead rest unit = up far + (dn ahead * unit + rest) ≡ dn far + up ahead * unit

module _ (code : ℕ) (v : InCodes) (below : v.rest < v.unit) (ahead : ℤ) (is : ahead ≡ v.whole.0 *ℤ negsuc 0 +ℤ pos code) where
  abbrev far : ℤ
  far = pos (code * v.unit) -ℤ units v

  between : Between far ahead v.rest v.unit
  between =
      let w = v.whole.0 in
      let back = turned w in
      let step : up ahead + up w ≡ dn ahead + (dn w + code) = omega (arith, ap up is, ap dn is, H.sum (w *ℤ negsuc 0) (pos code), back.ups, back.dns) in
      let minus = H.neg (units v) in
      omega (arith, H.sum (pos (code * v.unit)) (neg_ℤ (units v)), minus.ups, minus.dns, units-halves v, ap (λ n. n * v.unit) step)

  abbrev distance : ℕ → ℕ → Distance
  distance whole rest = record { whole = whole; rest = rest }

  -- no rest
  pub evenly : v.rest ≡ 0 → Apart code v (distance (nat_abs ahead) v.rest)
  evenly none = record { below = below; same = by ahead between }
    where
      by : (a : ℤ) → Between far a v.rest v.unit → nat_abs a * v.unit + v.rest ≡ nat_abs far
      by (pos k) h = omega (arith, h, none, H.split far)
      by (negsuc k) h = omega (arith, h, none, H.split far)

  -- not ahead of the whole
  pub behind : up ahead ≡ 0 → Apart code v (distance (nat_abs ahead) v.rest)
  behind none =
      record { below = below; same = omega (arith, between, ap (λ n. n * v.unit) none, ap (λ n. n * v.unit) (H.split ahead).size, H.split far) }

  -- ahead of it, with a rest
  pub beyond : 0 < up ahead → 0 < v.rest → Apart code v (distance (nat_abs ahead - 1) (v.unit - v.rest))
  beyond some left = record { below = omega (arith, below, left); same = by ahead some between }
    where
      by : (a : ℤ) → 0 < up a → Between far a v.rest v.unit → (nat_abs a - 1) * v.unit + (v.unit - v.rest) ≡ nat_abs far
      by (pos zero) some h = absurd (omega arith)
      by (pos (suc k)) some h =
          let one_less : suc k - 1 ≡ k = omega arith in
          rw one_less (omega (arith, h, below, H.split far))
      by (negsuc k) some h = absurd (omega arith)

-- ---- the distance is one only

pub distance-one : {code : ℕ} {v : InCodes} {r t : Distance} → Apart code v r → Apart code v t → r ≡ t
distance-one {code} {v} {r} {t} p q =
    let (wholes, rests) = quotient-one r.whole t.whole v.unit r.rest t.rest p.below q.below (p.same ∙ sym q.same) in
    same-distance wholes rests
  where
    same-distance : r.whole ≡ t.whole → r.rest ≡ t.rest → r ≡ t
    same-distance w l i = record { whole = w i; rest = l i }
