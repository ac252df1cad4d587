-- `code` computes the nearest code, and no other number is one. It grows with the numerator, and is the same for a fraction in any terms.
use mathlib.Core.Path.{◌≡◌, refl, sym, ap, ap₂, ◌∙◌}
use mathlib.Core.Logic.{◌⊎◌, inl, inr, ⊎_elim}
use Prim.Native.Nat.{ℕ, ◌+◌, ◌-◌, ◌*◌, ◌/◌, ◌≤◌, ◌<◌, min}
use native.Mathlib.Nat as NatL
use native.Mathlib.Decide.{dec_lt, dec_le}
use native.Mathlib.Omega.{arith}
use lib.IntN.{ℤ, pos, negsuc, neg_ℤ, ◌-ℤ◌, ◌*ℤ◌}
use lib.Signed.{◌≤ℤ◌}
use Rattle.whole.specs.Integers.{up, dn}
use Rattle.whole.specs.Nearest.{dist, Nearest, rounded, code}
use Rattle.whole.proofs.Halves as H

-- ---- the two bounds that fix the code: it is not too great, and where it is below m not too small

pub code-top : (s : ℤ) (den m : ℕ) → code s den m ≤ m
unfolding code
code-top s den m = NatL.min-le_left m _

pub code-low : (s : ℤ) (den m : ℕ) → 2 * (code s den m * den) ≤ 2 * up s + den
unfolding code
code-low s den m =
    let q = (2 * up s + den) / (2 * den) in
    omega (arith, NatL.mul-le-mul_right den (NatL.min-le_right m q), NatL.mul_left_comm 2 q den, NatL.div-mul-le_self (2 * up s + den) (2 * den))

pub code-high : (s : ℤ) (den m : ℕ) → 0 < den → code s den m < m → 2 * up s + den < 2 * (code s den m * den) + 2 * den
unfolding code
code-high s den m d h =
    let q = (2 * up s + den) / (2 * den) in
    let e : min m q ≡ q = omega arith in
    rw e (omega (arith, NatL.mul_left_comm 2 q den, NatL.lt-div-mul-add {a = 2 * up s + den} {b = 2 * den} (omega arith)))

-- ---- no code is nearer, and of equally near ones it is the greatest

dist-is : (s : ℤ) (n : ℕ) → dist s n ≡ (up s - (dn s + n)) + ((dn s + n) - up s)
dist-is s n = omega (arith, H.sum s (neg_ℤ (pos n)), H.neg (pos n), H.split (s -ℤ pos n))

-- two codes are at least den apart
apart : (k r den : ℕ) → k < r → k * den + den ≤ r * den
apart k r den h = omega (arith, NatL.mul-le-mul_right den h, NatL.suc-mul k den)

order : (k r : ℕ) → (k < r) ⊎ ((r ≡ k) ⊎ (r < k))
order k r = by (dec_lt k r)
  where
    by : Dec (k < r) → (k < r) ⊎ ((r ≡ k) ⊎ (r < k))
    by (yes h) = inl h
    by (no h) = inr (NatL.eq-or-lt_of_le (omega arith))

abbrev Near : ℤ → ℕ → ℕ → ℕ → Type 0
Near s den r k = (dist s (r * den) ≤ dist s (k * den)) × (dist s (r * den) ≡ dist s (k * den) → k ≤ r)

near : (s : ℤ) (den m r k : ℕ) → 2 * (r * den) ≤ 2 * up s + den → (r < m → 2 * up s + den < 2 * (r * den) + 2 * den) → 0 < den → k ≤ m → Near s den r k
near s den m r k lo hi d h = ⊎_elim below (⊎_elim same above) (order k r)
  where
    below : k < r → Near s den r k
    below b = (omega (arith, dist-is s (r * den), dist-is s (k * den), H.split s, apart k r den b), λ e. omega arith)

    same : r ≡ k → Near s den r k
    same e = (NatL.le_of_eq (ap (λ x. dist s (x * den)) e), λ q. omega arith)

    above : r < k → Near s den r k
    above b =
        let f : dist s (r * den) < dist s (k * den) = omega (arith, dist-is s (r * den), dist-is s (k * den), H.split s, apart r k den b, hi (omega arith)) in
        (NatL.le_of_lt f, λ e. omega arith)

pub code-nearest : (s : ℤ) (den m : ℕ) → 0 < den → Nearest s den m (code s den m)
code-nearest s den m d =
    let f : (k : ℕ) → k ≤ m → Near s den (code s den m) k = λ k. near s den m (code s den m) k (code-low s den m) (code-high s den m d) d in
    record { top = code-top s den m; least = λ k h. (f k h).0; greatest = λ k h. (f k h).1 }

-- and no other number is
pub nearest-one : (s : ℤ) (den m r t : ℕ) → Nearest s den m r → Nearest s den m t → r ≡ t
nearest-one s den m r t p q =
    let e : dist s (r * den) ≡ dist s (t * den) = NatL.le_antisymm (p.least t q.top) (q.least r p.top) in
    NatL.le_antisymm (q.greatest r p.top (sym e)) (p.greatest t q.top e)

-- ---- it grows with the numerator

div_mono : {a b : ℕ} (c : ℕ) → 0 < c → a ≤ b → a / c ≤ b / c
div_mono {a} {b} c d h = (NatL.le-div_iff_mul-le {k = c} {x = a / c} {y = b} d).1 (NatL.le_trans (NatL.div-mul-le_self a c) h)

up-mono : (s t : ℤ) → s ≤ℤ t → up s ≤ up t
up-mono s t h = omega (arith, H.le h, H.split s, H.split t)

pub code_mono : (s t : ℤ) (den m : ℕ) → 0 < den → s ≤ℤ t → code s den m ≤ code t den m
unfolding code
code_mono s t den m d h =
    let e = div_mono {a = 2 * up s + den} {b = 2 * up t + den} (2 * den) (omega arith) (omega (arith, up-mono s t h)) in
    omega (arith, e)

-- ---- it is the same at a multiple of both

rounded-scale : (w n den : ℕ) → 0 < w → rounded (w * n) (w * den) ≡ rounded n den
rounded-scale w n den d =
    ap₂ ◌/◌ (ap (λ x. x + w * den) (NatL.mul_left_comm 2 w n) ∙ sym (NatL.mul-add w (2 * n) den)) (NatL.mul_left_comm 2 w den)
    ∙ NatL.mul-div-mul_left (2 * n + den) (2 * den) d

pub code-scale : (w : ℕ) (s : ℤ) (den m : ℕ) → 0 < w → code (pos w *ℤ s) (w * den) m ≡ code s den m
unfolding code
code-scale w s den m d = ap (min m) (ap (λ x. rounded x (w * den)) (H.times w s).ups ∙ rounded-scale w (up s) den d)

-- ---- the code of m·s / den: s may be moved into 0 to den first, and no code need be cut afterwards

rounded-mono : {a b : ℕ} (den : ℕ) → 0 < den → a ≤ b → rounded a den ≤ rounded b den
rounded-mono den d h = div_mono (2 * den) (omega arith) (omega arith)

rounded-whole : (k den : ℕ) → 0 < den → rounded (k * den) den ≡ k
rounded-whole k den d =
    let twice = NatL.mul_left_comm 2 k den in
    NatL.div-eq_of_lt-le {k = k} (2 * den) (omega (arith, twice)) (omega (arith, twice, NatL.add-mul k 1 (2 * den)))

pub code-moved : (m : ℕ) (s : ℤ) (den : ℕ) → 0 < den → code (pos m *ℤ s) den m ≡ rounded (m * min den (up s)) den
unfolding code
code-moved m s den d = ap (λ x. min m (rounded x den)) (H.times m s).ups ∙ by (dec_le (up s) den)
  where
    by : Dec (up s ≤ den) → min m (rounded (m * up s) den) ≡ rounded (m * min den (up s)) den
    by (yes h) =
        let inside : rounded (m * up s) den ≤ m = NatL.le_trans (rounded-mono den d (NatL.mul-le-mul_left m h)) (NatL.le_of_eq (rounded-whole m den d)) in
        rw (NatL.min-eq_right h) (NatL.min-eq_right inside)
    by (no h) =
        let beyond : den ≤ up s = omega arith in
        let top : m ≤ rounded (m * up s) den = NatL.le_trans (NatL.le_of_eq (sym (rounded-whole m den d))) (rounded-mono den d (NatL.mul-le-mul_left m beyond)) in
        rw (NatL.min-eq_left beyond) (NatL.min-eq_left top ∙ sym (rounded-whole m den d))

-- m / den in other terms, p / unit
pub code-in-terms : (p m den unit : ℕ) (s : ℤ) → 0 < den → 0 < unit → p * den ≡ m * unit → code (pos m *ℤ s) den m ≡ rounded (p * min den (up s)) unit
code-in-terms p m den unit s d u e =
    let t = min den (up s) in
    code-moved m s den d
    ∙ sym (rounded-scale unit (m * t) den u)
    ∙ ap₂ rounded (crossed t) (NatL.mul_comm unit den)
    ∙ rounded-scale den (p * t) unit d
  where
    crossed : (t : ℕ) → unit * (m * t) ≡ den * (p * t)
    crossed t = NatL.mul_left_comm unit m t ∙ sym (NatL.mul_assoc m unit t) ∙ ap (λ x. x * t) (sym e) ∙ NatL.mul_assoc p den t ∙ NatL.mul_left_comm p den t

-- ---- worked examples

tie-goes-up : code (pos 15) 10 7 ≡ 2
unfolding code
tie-goes-up = refl

-- also to an odd code
tie-goes-up-to-odd : code (pos 5) 10 7 ≡ 1
unfolding code
tie-goes-up-to-odd = refl

just-below-the-tie : code (pos 14_999_999) 10_000_000 65535 ≡ 1
unfolding code
just-below-the-tie = refl

negative-to-0 : code (negsuc 4) 10 7 ≡ 0
unfolding code
negative-to-0 = refl

large-to-m : code (pos 6_553_500_000_000_000_000) 10_000_000 65535 ≡ 65535
unfolding code
large-to-m = refl
