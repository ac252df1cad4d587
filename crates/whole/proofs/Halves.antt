-- omega does not read ℤ. It reads the two halves of an integer, z = up z − dn z: each operation and each order on ℤ is a linear fact of them.
use mathlib.Core.Path.{◌≡◌, refl, ap, ◌∙◌}
use mathlib.Core.Bool.{Bool, true, false, not, cond}
use mathlib.Core.Logic.{◌⊎◌, inl, inr}
use Prim.Native.Nat.{ℕ, zero, suc, ◌+◌, ◌-◌, ◌*◌, ◌≤◌, ◌<◌, min}
use native.Mathlib.Nat as NatL
use native.Mathlib.Decide.{dec_le}
use native.Mathlib.Omega.{arith}
use lib.Dec.{T, ltb, ltb→lt, nltb→le, leb→le, le→leb, lt→ltb}
use lib.IntN.{ℤ, pos, negsuc, neg_ℤ, nat_abs, sub_ℕ, ◌+ℤ◌, ◌*ℤ◌}
use lib.Signed.{◌≤ℤ◌, ◌<ℤ◌, le_z_yes, lt_z_yes}
use Rattle.whole.specs.Integers.{up, dn}

pub record Halves (z : ℤ) (p n : ℕ) : Type 0 where
  pub ups : up z ≡ p
  pub dns : dn z ≡ n

-- one of the halves is 0, so that they add up to the absolute value
pub record Split (z : ℤ) : Type 0 where
  pub size : nat_abs z ≡ up z + dn z
  pub one : min (up z) (dn z) ≡ 0

pub split : (z : ℤ) → Split z
split (pos n) = record { size = omega arith; one = omega arith }
split (negsuc n) = record { size = omega arith; one = omega arith }

-- ---- the operations

cond-by : {X : Type 0} (c : Bool) (x y : X) (P : X → Type 0) → (T c → P x) → (T (not c) → P y) → P (cond c x y)
cond-by true x y P f g = f tt
cond-by false x y P f g = g tt

pub sub-halves : (a b : ℕ) → Halves (sub_ℕ a b) (a - b) (b - a)
sub-halves a b =
    cond-by (ltb a b) (negsuc (b - suc a)) (pos (a - b)) (λ z. Halves z (a - b) (b - a))
    (λ t. less (ltb→lt a b t)) (λ t. more (nltb→le a b t))
  where
    less : a < b → Halves (negsuc (b - suc a)) (a - b) (b - a)
    less h = record { ups = omega arith; dns = omega arith }

    more : b ≤ a → Halves (pos (a - b)) (a - b) (b - a)
    more h = record { ups = refl; dns = omega arith }

pub sum : (a b : ℤ) → up (a +ℤ b) + (dn a + dn b) ≡ dn (a +ℤ b) + (up a + up b)
sum (pos a) (pos b) = omega arith
sum (pos a) (negsuc b) = omega (arith, sub-halves a (suc b))
sum (negsuc a) (pos b) = omega (arith, sub-halves b (suc a))
sum (negsuc a) (negsuc b) = omega arith

neg-pos : (n : ℕ) → Halves (neg_ℤ (pos n)) 0 n
neg-pos zero = record { ups = refl; dns = refl }
neg-pos (suc n) = record { ups = refl; dns = refl }

pub neg : (z : ℤ) → Halves (neg_ℤ z) (dn z) (up z)
neg (pos n) = neg-pos n
neg (negsuc n) = record { ups = refl; dns = refl }

pub product : (a b : ℤ) → Halves (a *ℤ b) (up a * up b + dn a * dn b) (up a * dn b + dn a * up b)
product (pos a) (pos b) = record { ups = omega arith; dns = omega arith }
product (pos a) (negsuc b) = let h = neg-pos (a * suc b) in record { ups = omega arith; dns = omega arith }
product (negsuc a) (pos b) = let h = neg-pos (suc a * b) in record { ups = omega arith; dns = omega arith }
product (negsuc a) (negsuc b) = record { ups = omega arith; dns = omega arith }

-- by a natural number
pub times : (w : ℕ) (z : ℤ) → Halves (pos w *ℤ z) (w * up z) (w * dn z)
times w z = record { ups = omega (arith, product (pos w) z); dns = omega (arith, product (pos w) z) }

-- ---- the orders and equality

pub le : {a b : ℤ} → a ≤ℤ b → up a + dn b ≤ up b + dn a
le {a = pos a} {b = pos b} h = omega (arith, leb→le a b h.le)
le {a = pos a} {b = negsuc b} h = absurd h.le
le {a = negsuc a} {b = pos b} h = omega arith
le {a = negsuc a} {b = negsuc b} h = omega (arith, leb→le b a h.le)

pub le-by : (a b : ℤ) → up a + dn b ≤ up b + dn a → a ≤ℤ b
le-by (pos a) (pos b) h = le_z_yes (le→leb a b (omega arith))
le-by (pos a) (negsuc b) h = absurd (no h)
  where
    no : a + suc b ≤ 0 + 0 → ⊥
    no h = omega arith
le-by (negsuc a) (pos b) h = le_z_yes tt
le-by (negsuc a) (negsuc b) h = le_z_yes (le→leb b a (omega arith))

pub lt : {a b : ℤ} → a <ℤ b → up a + dn b < up b + dn a
lt {a = pos a} {b = pos b} h = omega (arith, ltb→lt a b h.lt)
lt {a = pos a} {b = negsuc b} h = absurd h.lt
lt {a = negsuc a} {b = pos b} h = omega arith
lt {a = negsuc a} {b = negsuc b} h = omega (arith, ltb→lt b a h.lt)

pub lt_by : (a b : ℤ) → up a + dn b < up b + dn a → a <ℤ b
lt_by (pos a) (pos b) h = lt_z_yes (lt→ltb a b (omega arith))
lt_by (pos a) (negsuc b) h = absurd (no h)
  where
    no : a + suc b < 0 + 0 → ⊥
    no h = omega arith
lt_by (negsuc a) (pos b) h = lt_z_yes tt
lt_by (negsuc a) (negsuc b) h = lt_z_yes (lt→ltb b a (omega arith))

pub eq-by : (a b : ℤ) → up a + dn b ≡ up b + dn a → a ≡ b
eq-by (pos a) (pos b) h = ap pos (omega arith)
eq-by (pos a) (negsuc b) h = absurd (no h)
  where
    no : a + suc b ≡ 0 + 0 → ⊥
    no h = omega arith
eq-by (negsuc a) (pos b) h = absurd (no h)
  where
    no : 0 + 0 ≡ b + suc a → ⊥
    no h = omega arith
eq-by (negsuc a) (negsuc b) h = ap negsuc (omega arith)

-- ---- laws on ℤ by them

pub ≤_trans : {a b c : ℤ} → a ≤ℤ b → b ≤ℤ c → a ≤ℤ c
≤_trans {a} {b} {c} h k = le-by a c (omega (arith, le h, le k))

pub ≤-antisymm : {a b : ℤ} → a ≤ℤ b → b ≤ℤ a → a ≡ b
≤-antisymm {a} {b} h k = eq-by a b (omega (arith, le h, le k))

pub ≤-or-> : (a b : ℤ) → (a ≤ℤ b) ⊎ (b <ℤ a)
≤-or-> a b = by (dec_le (up a + dn b) (up b + dn a))
  where
    by : Dec (up a + dn b ≤ up b + dn a) → (a ≤ℤ b) ⊎ (b <ℤ a)
    by (yes h) = inl (le-by a b h)
    by (no h) = inr (lt_by b a (omega arith))

pub <→≤ : {a b : ℤ} → a <ℤ b → a ≤ℤ b
<→≤ {a} {b} h = le-by a b (omega (arith, lt h))

pub sum_mono : {a b c d : ℤ} → a ≤ℤ b → c ≤ℤ d → (a +ℤ c) ≤ℤ (b +ℤ d)
sum_mono {a} {b} {c} {d} h k = le-by (a +ℤ c) (b +ℤ d) (omega (arith, le h, le k, sum a c, sum b d))

pub mul_mono : (w : ℕ) {a b : ℤ} → a ≤ℤ b → (pos w *ℤ a) ≤ℤ (pos w *ℤ b)
mul_mono w {a} {b} h =
    le-by (pos w *ℤ a) (pos w *ℤ b) (omega (arith, times w a, times w b, simp NatL.mul-add at (NatL.mul-le-mul_left w (le h))))

pub add-mul : (a b z : ℤ) → (a +ℤ b) *ℤ z ≡ a *ℤ z +ℤ b *ℤ z
add-mul a b z =
    eq-by ((a +ℤ b) *ℤ z) (a *ℤ z +ℤ b *ℤ z)
    (omega (arith, product (a +ℤ b) z, product a z, product b z, sum (a *ℤ z) (b *ℤ z), by-half (up z), by-half (dn z)))
  where
    by-half : (h : ℕ) → up (a +ℤ b) * h + (dn a * h + dn b * h) ≡ dn (a +ℤ b) * h + (up a * h + up b * h)
    by-half h = simp NatL.add-mul at (ap (λ x. x * h) (sum a b))

pub mul_assoc : (a b : ℕ) (z : ℤ) → pos (a * b) *ℤ z ≡ pos a *ℤ (pos b *ℤ z)
mul_assoc a b z =
    let u = (times a (pos b *ℤ z)).ups ∙ ap (λ x. a * x) (times b z).ups in
    let d = (times a (pos b *ℤ z)).dns ∙ ap (λ x. a * x) (times b z).dns in
    eq-by (pos (a * b) *ℤ z) (pos a *ℤ (pos b *ℤ z)) (omega (arith, u, d, times (a * b) z, NatL.mul_assoc a b (up z), NatL.mul_assoc a b (dn z)))

-- ---- absolute values

pub neg-abs : (z : ℤ) → nat_abs (neg_ℤ z) ≡ nat_abs z
neg-abs z = omega (arith, neg z, split z, split (neg_ℤ z))

pub sum-abs : (a b : ℤ) → nat_abs (a +ℤ b) ≤ nat_abs a + nat_abs b
sum-abs a b = omega (arith, sum a b, split a, split b, split (a +ℤ b))

pub product-abs : (a b : ℤ) → nat_abs (a *ℤ b) ≡ nat_abs a * nat_abs b
product-abs (pos a) (pos b) = refl
product-abs (pos a) (negsuc b) = neg-abs (pos (a * suc b))
product-abs (negsuc a) (pos b) = neg-abs (pos (suc a * b))
product-abs (negsuc a) (negsuc b) = refl
