-- `Held b z n`: the bits b of an i64 read as z, and |z| ≤ n. One lemma for each signed operation: that it does not wrap (`-ok`), and what it leaves.
-- So each need of a signed expression is one application, with a bound that omega shows.
use mathlib.Core.Path.{◌≡◌, refl, sym, subst}
use mathlib.Core.Bool.{Bool, true, false, not, false≢true}
use Prim.Native.Nat.{ℕ, suc, ◌+◌, ◌*◌, ◌/◌, ◌≤◌, ◌<◌}
use native.Mathlib.Nat as NatL
use native.Mathlib.Omega.{arith}
use borrow.Author.Tests.{ltb-true, ltb-false, le-leb, lt-leb}
use lib.Dec.{T, leb, leb-zero, lit<}
use lib.IntN.{ℤ, pos, negsuc, neg_ℤ, nat_abs, ◌+ℤ◌, ◌-ℤ◌, ◌*ℤ◌}
use lib.Signed.{lt_z, le_z, non_neg, quot_z, lt_z_yes, lt_z_no}
use mir.Syntax.{w64}
use mir.Val.{Fits, SFits, to_z, of_z}
use mir.ValLaws.{to_z-of_z, to_z_pos}
use Rattle.whole.specs.Integers.{up, dn}
use Rattle.whole.proofs.Halves as H

pub record Held (b : ℕ) (z : ℤ) (n : ℕ) : Type 0 where
  pub reads : to_z w64 b ≡ z
  pub within : nat_abs z ≤ n

-- below 2 ^ 63 in absolute value: an i64
pub abs-fits : (z : ℤ) → nat_abs z < 9_223_372_036_854_775_808 → SFits w64 z
abs-fits (pos n) h = record { sfits = h }
abs-fits (negsuc n) h = record { sfits = omega arith }

-- an i64 in a local
pub of : (z : ℤ) (n : ℕ) → nat_abs z ≤ n → n < 9_223_372_036_854_775_808 → Held (of_z w64 z) z n
of z n h k = record { reads = to_z-of_z w64 z (abs-fits z (omega arith)); within = h }

-- an i64 in a struct's field: it may be the least one, whose absolute value is 2 ^ 63
pub field : (z : ℤ) → SFits w64 z → Held (of_z w64 z) z (nat_abs z)
field z f = record { reads = to_z-of_z w64 z f; within = NatL.le_refl _ }

-- a u64 cast to i64
pub cast : (w n : ℕ) → w ≤ n → n < 9_223_372_036_854_775_808 → Held w (pos w) n
cast w n h k = record { reads = to_z_pos w64 w (omega arith); within = h }

-- ---- sum, difference, product
module _ {x y : ℕ} {a b : ℤ} {m n : ℕ} (p : Held x a m) (q : Held y b n) where
  sum-abs : nat_abs (a +ℤ b) ≤ m + n
  sum-abs = omega (arith, H.sum-abs a b)

  sub-abs : nat_abs (a -ℤ b) ≤ m + n
  sub-abs = omega (arith, H.sum-abs a (neg_ℤ b), H.neg-abs b)

  mul-abs : nat_abs (a *ℤ b) ≤ m * n
  mul-abs = rw H.product-abs (NatL.mul-le-mul p.within q.within)

  pub add_ok : m + n < 9_223_372_036_854_775_808 → SFits w64 (to_z w64 x +ℤ to_z w64 y)
  add_ok k = rw (p.reads, q.reads) (abs-fits (a +ℤ b) (omega (arith, sum-abs)))

  pub add : m + n < 9_223_372_036_854_775_808 → Held (of_z w64 (to_z w64 x +ℤ to_z w64 y)) (a +ℤ b) (m + n)
  add k = rw (p.reads, q.reads) (of (a +ℤ b) (m + n) sum-abs k)

  pub sub-ok : m + n < 9_223_372_036_854_775_808 → SFits w64 (to_z w64 x -ℤ to_z w64 y)
  sub-ok k = rw (p.reads, q.reads) (abs-fits (a -ℤ b) (omega (arith, sub-abs)))

  pub sub : m + n < 9_223_372_036_854_775_808 → Held (of_z w64 (to_z w64 x -ℤ to_z w64 y)) (a -ℤ b) (m + n)
  sub k = rw (p.reads, q.reads) (of (a -ℤ b) (m + n) sub-abs k)

  pub mul_ok : m * n < 9_223_372_036_854_775_808 → SFits w64 (to_z w64 x *ℤ to_z w64 y)
  mul_ok k = rw (p.reads, q.reads) (abs-fits (a *ℤ b) (omega (arith, mul-abs)))

  pub mul : m * n < 9_223_372_036_854_775_808 → Held (of_z w64 (to_z w64 x *ℤ to_z w64 y)) (a *ℤ b) (m * n)
  mul k = rw (p.reads, q.reads) (of (a *ℤ b) (m * n) mul-abs k)

-- ---- quotient, by a number above 0

pub quot-size : (z : ℤ) (k : ℕ) → nat_abs (quot_z z (pos k)) ≡ nat_abs z / k
quot-size (pos a) k = refl
quot-size (negsuc a) k = H.neg-abs (pos (suc a / k))

module _ {x y : ℕ} {a : ℤ} {k m n : ℕ} (p : Held x a m) (q : Held y (pos k) n) where
  quot-abs : nat_abs (quot_z a (pos k)) ≤ m
  quot-abs = rw (quot-size a k) (NatL.le_trans (NatL.div-le_self (nat_abs a) k) p.within)

  pub quot-ok : m < 9_223_372_036_854_775_808 → SFits w64 (quot_z (to_z w64 x) (to_z w64 y))
  quot-ok h = rw (p.reads, q.reads) (abs-fits (quot_z a (pos k)) (omega (arith, quot-abs)))

  pub quot : m < 9_223_372_036_854_775_808 → Held (of_z w64 (quot_z (to_z w64 x) (to_z w64 y))) (quot_z a (pos k)) m
  quot h = rw (p.reads, q.reads) (of (quot_z a (pos k)) m quot-abs h)

-- ---- a Bool that is known, and the test that it is
pub passed : (t : Bool) → t ≡ true → T t
passed t e = subst T (sym e) tt

pub failed : (t : Bool) → t ≡ false → T (not t)
failed t e = subst (λ (b : Bool). T (not b)) (sym e) tt

pub true-by : (t : Bool) → T t → t ≡ true
true-by true h = refl
true-by false h = absurd h

pub false-by : (t : Bool) → (T t → ⊥) → t ≡ false
false-by true h = absurd (h tt)
false-by false h = refl

-- ---- what a branch on a signed `<` tells, as a fact that omega reads
module _ (a b : ℤ) (f : SFits w64 a) (g : SFits w64 b) where
  pub lt_yes : lt_z (to_z w64 (of_z w64 a)) (to_z w64 (of_z w64 b)) ≡ true → up a + dn b < up b + dn a
  lt_yes e = H.lt {a = a} {b = b} (lt_z_yes (passed (lt_z a b) (rw (to_z-of_z w64 a f, to_z-of_z w64 b g) at e)))

  pub lt_no : lt_z (to_z w64 (of_z w64 a)) (to_z w64 (of_z w64 b)) ≡ false → up b + dn a ≤ up a + dn b
  lt_no e = H.le {a = b} {b = a} (lt_z_no (failed (lt_z a b) (rw (to_z-of_z w64 a f, to_z-of_z w64 b g) at e)))

-- ---- the test itself, from a fact of the halves
pub le_up : (z : ℤ) (n : ℕ) → le_z z (pos n) ≡ leb (up z) n
le_up (pos a) n = refl
le_up (negsuc a) n = sym (leb-zero n)

-- ---- the two tests `z < -limit` and `z <= limit`, with limit = suc n
module _ (z : ℤ) (n : ℕ) (f : SFits w64 z) where
  pub beyond : lt_z (to_z w64 (of_z w64 z)) (negsuc n) ≡ true → leb (nat_abs z) (suc n) ≡ false
  beyond e = by z (rw (to_z-of_z w64 z f) at e)
    where
      by : (z : ℤ) → lt_z z (negsuc n) ≡ true → leb (nat_abs z) (suc n) ≡ false
      by (pos a) e = absurd (false≢true e)
      by (negsuc a) e = lt-leb (suc a) (suc n) (omega (arith, ltb-true n a e))

  pub inside : lt_z (to_z w64 (of_z w64 z)) (negsuc n) ≡ false → le_z (to_z w64 (of_z w64 z)) (pos (suc n)) ≡ leb (nat_abs z) (suc n)
  inside e = rw (to_z-of_z w64 z f) (by z (rw (to_z-of_z w64 z f) at e))
    where
      by : (z : ℤ) → lt_z z (negsuc n) ≡ false → le_z z (pos (suc n)) ≡ leb (nat_abs z) (suc n)
      by (pos a) e = refl
      by (negsuc a) e = sym (le-leb (suc a) (suc n) (omega (arith, ltb-false n a e)))

-- ---- an i64 that is not negative, cast to u64
pub cast_ok : (z : ℤ) → SFits w64 z → dn z ≡ 0 → T (non_neg z) × Fits w64 (nat_abs z)
cast_ok (pos n) f h = (tt, record { fits = NatL.lt_trans f.sfits (lit< tt) })
cast_ok (negsuc n) f h = absurd (NatL.suc-ne-zero n h)

module _ {b : ℕ} {z : ℤ} {n : ℕ} (h : Held b z n) where
  pub negative : lt_z (to_z w64 b) (pos 0) ≡ true → up z ≡ 0
  negative e = omega (arith, H.lt {a = z} {b = pos 0} (lt_z_yes (passed (lt_z z (pos 0)) (rw h.reads at e))), H.split z)

  pub not_negative : lt_z (to_z w64 b) (pos 0) ≡ false → dn z ≡ 0
  not_negative e = omega (arith, H.le {a = pos 0} {b = z} (lt_z_no (failed (lt_z z (pos 0)) (rw h.reads at e))), H.split z)

  pub as-u64-ok : n < 9_223_372_036_854_775_808 → dn z ≡ 0 → T (non_neg (to_z w64 b)) × Fits w64 (nat_abs (to_z w64 b))
  as-u64-ok k e = rw h.reads (cast_ok z (abs-fits z (omega (arith, h.within))) e)

  pub as-u64 : dn z ≡ 0 → nat_abs (to_z w64 b) ≡ up z
  as-u64 e = rw h.reads (omega (arith, H.split z))
