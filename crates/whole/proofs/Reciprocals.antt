-- The guess that a reciprocal gives is the quotient or one less. With k the divisor, r = 2^63 / k and N = n / 2^23, the guess g is N·r / 2^40: each division cuts
-- off a little, so that g·k is at most n; what is cut off in all is less than 2·k, since N is below 2^39 and k at least 2^24.
-- One that is rounded up gives the quotient q itself. With w = 2^64, or 2^87 where it has 23 bits more, and t·k = w + e, n·t is at least q·k·t, and that at least
-- q·w; and it does not come to (q + 1)·w, since n·t·k is n·w + n·e, which is less than (n + 1)·w where n·e is less than w, and n + 1 is at most (q + 1)·k.
use Prim.Native.Nat.{ℕ, ◌+◌, ◌-◌, ◌*◌, ◌/◌, ◌%◌, ◌≤◌, ◌<◌}
use mathlib.Core.Path.{◌≡◌, ◌∙◌, ap, sym, subst}
use mathlib.Core.Bool.{true}
use mathlib.Core.Logic.{◌↔◌}
use native.Mathlib.Nat as NatL
use native.Mathlib.Decide.{dec_le}
use native.Mathlib.Omega.{arith}
use borrow.Author.Tests.{leb-true, le-leb, lt-leb, lt-ltb, le-ltb}
use lib.Dec.{leb, ltb}
use Rattle.whole.specs.Reciprocals.{Dividable, reciprocal_of, excess, Divides, two_to87, wide_of, WideDivides}
use Rattle.whole.specs.declared.reciprocal.Divisor.{Divisor}
use Rattle.whole.specs.declared.reciprocal.Reciprocal.{Reciprocal}
use Rattle.whole.specs.declared.reciprocal.WideReciprocal.{WideReciprocal}

module _ (n : ℕ) (d : Divisor) (f : Dividable n d) where
  abbrev k : ℕ
  k = d.by

  abbrev r : ℕ
  r = d.reciprocal

  abbrev high : ℕ
  high = n / 8_388_608

  abbrev guess : ℕ
  guess = high * r / 1_099_511_627_776

  -- ---- what each division cuts off

  high-low : high * 8_388_608 ≤ n
  high-low = NatL.div-mul-le_self n 8_388_608

  high-near : n < high * 8_388_608 + 8_388_608
  high-near = NatL.lt-div-mul-add {a = n} {b = 8_388_608} (omega arith)

  reciprocal-low : r * k ≤ 9_223_372_036_854_775_808
  reciprocal-low = subst (λ x. x * k ≤ 9_223_372_036_854_775_808) (sym f.made) (NatL.div-mul-le_self 9_223_372_036_854_775_808 k)

  reciprocal-near : 9_223_372_036_854_775_808 < r * k + k
  reciprocal-near =
      subst (λ x. 9_223_372_036_854_775_808 < x * k + k) (sym f.made) (NatL.lt-div-mul-add {a = 9_223_372_036_854_775_808} {b = k} (omega (arith, f.least)))

  guess-low : guess * 1_099_511_627_776 ≤ high * r
  guess-low = NatL.div-mul-le_self (high * r) 1_099_511_627_776

  guess-near : high * r < guess * 1_099_511_627_776 + 1_099_511_627_776
  guess-near = NatL.lt-div-mul-add {a = high * r} {b = 1_099_511_627_776} (omega arith)

  -- ---- the guess

  pub product-fits : high * r ≤ 9_223_372_036_854_775_808
  product-fits =
      let few : high ≤ k = omega (arith, high-low, f.ratio) in
      omega (arith, NatL.mul-le-mul_right r few, NatL.mul_comm k r, reciprocal-low)

  abbrev taken : ℕ
  taken = guess * k

  times-k : guess * 1_099_511_627_776 * k ≡ 1_099_511_627_776 * taken
  times-k = NatL.mul_assoc guess 1_099_511_627_776 k ∙ NatL.mul_left_comm guess 1_099_511_627_776 k

  pub not_more : guess * k ≤ n
  not_more =
      omega (arith, NatL.mul-le-mul_right k guess-low, times-k, NatL.mul_assoc high r k, NatL.mul-le-mul_left high reciprocal-low, high-low)

  pub nearly : n < guess * k + (k + k)
  nearly =
      let few : high ≤ 549_755_813_888 = omega (arith, high-low, f.most) in
      let above : high * r ≤ guess * 1_099_511_627_776 + 1_099_511_627_776 = NatL.le_of_lt guess-near in
      omega (
        arith,
        NatL.mul-le-mul_right k above,
        NatL.add-mul (guess * 1_099_511_627_776) 1_099_511_627_776 k,
        times-k,
        NatL.mul_assoc high r k,
        NatL.mul-le-mul_left high (NatL.le_of_lt reciprocal-near),
        NatL.mul-add high (r * k) k,
        NatL.mul-le-mul_right k few,
        f.least,
        high-near,
      )

  -- ---- put right

  pub guess-right : n - guess * k < k → guess ≡ n / k
  guess-right h = sym (NatL.div-eq_of_lt-le {k = guess} k not_more (omega (arith, h, not_more, NatL.add-mul guess 1 k)))

  pub guess-short : k ≤ n - guess * k → guess + 1 ≡ n / k
  guess-short h =
      sym (NatL.div-eq_of_lt-le {k = guess + 1} k (omega (arith, h, NatL.add-mul guess 1 k)) (omega (arith, nearly, NatL.add-mul guess 1 k, NatL.add-mul (guess + 1) 1 k)))

-- ---- rounded up

-- of any w
module _ (w by t n : ℕ) (some : 0 < by) (above : w ≤ t * by) (near : n * (t * by - w) < w) where
  abbrev e : ℕ
  e = t * by - w

  abbrev q : ℕ
  q = n / by

  not-less : q * w ≤ n * t
  not-less =
      omega (
        arith,
        NatL.mul-le-mul_left q above,
        NatL.mul_assoc q by t,
        NatL.mul-le-mul_right t (NatL.div-mul-le_self n by),
      )

  not-reached : n * t < (q + 1) * w
  not-reached =
      let next : n + 1 ≤ (q + 1) * by = omega (arith, NatL.lt-div-mul-add {a = n} {b = by} some, NatL.add-mul q 1 by) in
      let whole : t * by ≡ w + e = omega (arith, above) in
      NatL.lt_of_mul-lt-mul_right by
      (omega (
        arith,
        NatL.mul_assoc n t by,
        ap (λ x. n * x) whole,
        NatL.mul-add n w e,
        near,
        NatL.mul_assoc w (q + 1) by,
        NatL.mul-le-mul_left w next,
        NatL.mul-add w n 1,
      ))

  by_whole : n * t / w ≡ n / by
  by_whole = NatL.div-eq_of_lt-le {k = q} w not-less not-reached

pub divided : (r : Reciprocal) (n : ℕ) → Divides r n → n * r.times / 18_446_744_073_709_551_616 ≡ n / r.by
divided r n f = by_whole 18_446_744_073_709_551_616 r.by r.times n f.some f.above f.near

-- the upper half, and that without its last 23 bits
pub wide-divided : (r : WideReciprocal) (n : ℕ) → WideDivides r n → n * r.times / 18_446_744_073_709_551_616 / 8_388_608 ≡ n / r.by
wide-divided r n f =
    NatL.div-div-eq-div-mul (n * r.times) 18_446_744_073_709_551_616 8_388_608 ∙ by_whole two_to87 r.by r.times n f.some f.above f.near

-- what is rounded up is not below
not-below : (k : ℕ) → 0 < k → 18_446_744_073_709_551_616 ≤ (18_446_744_073_709_551_615 / k + 1) * k
not-below k s =
    omega (arith, NatL.lt-div-mul-add {a = 18_446_744_073_709_551_615} {b = k} s, NatL.add-mul (18_446_744_073_709_551_615 / k) 1 k)

-- the test that `divides` makes, of the greatest number, is enough for those up to it
pub reciprocal-divides : (k n most : ℕ) → 1 < k → n ≤ most → leb (most * excess k) 18_446_744_073_709_551_615 ≡ true → Divides (reciprocal_of k) n
reciprocal-divides k n most s h l =
    record {
      some = omega arith;
      above = not-below k (omega arith);
      near = omega (arith, NatL.mul-le-mul_right (excess k) h, leb-true (most * excess k) 18_446_744_073_709_551_615 l);
    }

-- ---- how it is found out up to where it divides

-- the next multiple is k − (2^64 − 1) % k above 2^64 − 1, and one less above 2^64
pub excess-computed : (k : ℕ) → 0 < k → k - 1 - 18_446_744_073_709_551_615 % k ≡ excess k
excess-computed k s =
    omega (
      arith,
      NatL.mod-lt 18_446_744_073_709_551_615 s,
      NatL.div-add-mod' 18_446_744_073_709_551_615 k,
      NatL.add-mul (18_446_744_073_709_551_615 / k) 1 k,
    )

-- a product fits where one number is at most how often the other goes into the most that fits
pub product-tested : (m x : ℕ) → 0 < m → leb x (18_446_744_073_709_551_615 / m) ≡ leb (m * x) 18_446_744_073_709_551_615
product-tested m x s = by (dec_le x (18_446_744_073_709_551_615 / m))
  where
    either : (x ≤ 18_446_744_073_709_551_615 / m) ↔ (x * m ≤ 18_446_744_073_709_551_615)
    either = NatL.le-div_iff_mul-le s

    over : (x ≤ 18_446_744_073_709_551_615 / m → ⊥) → 18_446_744_073_709_551_615 < m * x
    over h = NatL.lt_of_not-le (λ k. h (either.1 (omega arith)))

    by : Dec (x ≤ 18_446_744_073_709_551_615 / m) → leb x (18_446_744_073_709_551_615 / m) ≡ leb (m * x) 18_446_744_073_709_551_615
    by (yes h) = le-leb _ _ h ∙ sym (le-leb (m * x) 18_446_744_073_709_551_615 (omega (arith, either.0 h)))
    by (no h) = lt-leb x (18_446_744_073_709_551_615 / m) (omega arith) ∙ sym (lt-leb _ _ (over h))

-- ---- with 23 bits more

-- 2^64 is q·k + rest, so 2^87 is q·2^23·k and the rest's 2^23
pub wide-computed : (k : ℕ) → 0 < k
    → 18_446_744_073_709_551_615 / k * 8_388_608 + (18_446_744_073_709_551_615 % k + 1) * 8_388_608 / k ≡ two_to87 / k
wide-computed k some =
    let q = 18_446_744_073_709_551_615 / k in
    let rest = 18_446_744_073_709_551_615 % k + 1 in
    let all : two_to87 ≡ rest * 8_388_608 + q * 8_388_608 * k =
    omega (arith, NatL.div-add-mod' 18_446_744_073_709_551_615 k, NatL.mul_assoc q 8_388_608 k, NatL.mul_left_comm q 8_388_608 k)
    in
    omega (arith, ap (λ x. x / k) all, NatL.add-mul-div_right (rest * 8_388_608) (q * 8_388_608) some)

-- above 2^23 there is room for the 1
pub wide_fits : (k : ℕ) → 8_388_608 < k → two_to87 / k + 1 < 18_446_744_073_709_551_616
wide_fits k h =
    let below : two_to87 / k < 18_446_744_073_709_551_615 =
    (NatL.div-lt_iff_lt-mul {k = k} {x = two_to87} {y = 18_446_744_073_709_551_615} (omega arith)).1 (omega arith)
    in
    omega arith

-- the test that `divides` makes
pub wide-tested : (k n : ℕ) → 0 < k → ltb n (two_to87 / k) ≡ leb ((n + 1) * k) two_to87
wide-tested k n some = by (dec_le (n + 1) (two_to87 / k))
  where
    either : (n + 1 ≤ two_to87 / k) ↔ ((n + 1) * k ≤ two_to87)
    either = NatL.le-div_iff_mul-le some

    by : Dec (n + 1 ≤ two_to87 / k) → ltb n (two_to87 / k) ≡ leb ((n + 1) * k) two_to87
    by (yes h) = lt-ltb n (two_to87 / k) (omega arith) ∙ sym (le-leb _ _ (either.0 h))
    by (no h) = le-ltb n (two_to87 / k) (omega arith) ∙ sym (lt-leb _ _ (NatL.lt_of_not-le (λ l. h (either.1 l))))

-- of the greatest number, it is enough for those up to it
pub wide-divides : (k n most : ℕ) → 0 < k → n ≤ most → leb ((most + 1) * k) two_to87 ≡ true → WideDivides (wide_of k) n
wide-divides k n most some h l =
    let t = two_to87 / k + 1 in
    let over : t * k ≡ two_to87 / k * k + k = omega (arith, NatL.add-mul (two_to87 / k) 1 k) in
    let added : t * k - two_to87 ≤ k = omega (arith, over, NatL.div-mul-le_self two_to87 k) in
    record {
      some = some;
      above = omega (arith, over, NatL.lt-div-mul-add {a = two_to87} {b = k} some);
      near =
          omega (
            arith,
            NatL.mul-le-mul_left n added,
            NatL.mul-le-mul_right k h,
            NatL.add-mul most 1 k,
            some,
            leb-true ((most + 1) * k) two_to87 l,
          );
    }
