-- Long division, digit by digit: after each, the digits are those of the quotient, and what is left is its rest.
use Prim.Native.Nat.{ℕ, ◌+◌, ◌*◌, ◌/◌, ◌%◌, ◌^◌, ◌≤◌, ◌<◌}
use mathlib.Core.Path.{◌≡◌, refl, sym, ap, ap₂, subst, ◌∙◌}
use mathlib.Core.Bool.{true, false, false≢true}
use mathlib.Core.Logic.{◌⊎◌, inl, inr}
use native.Mathlib.Nat as NatL
use native.Mathlib.Decide.{dec_lt}
use native.Mathlib.Numerals.{add-one}
use native.Mathlib.Omega.{arith}
use borrow.Author.Tests.{lt-ltb}
use lib.Dec.{ltb}
use Rattle.exact.specs.Decimals.{left, LongDivision}
use Rattle.exact.specs.declared.decimals.Places.{Places}

-- ---- one digit more of x / unit

module _ (x unit : ℕ) (some : 0 < unit) where
  tenfold : x * 10 ≡ x / unit * 10 * unit + x % unit * 10
  tenfold = omega (arith, NatL.div-add-mod' x unit)

  next-digits : x * 10 / unit ≡ x / unit * 10 + x % unit * 10 / unit
  next-digits = ap (λ n. n / unit) tenfold ∙ NatL.mul-add-div_right some (x / unit * 10) (x % unit * 10)

  next-left : x * 10 % unit ≡ x % unit * 10 % unit
  next-left = ap (λ n. n % unit) tenfold ∙ NatL.mul-add-mod_self_right (x / unit * 10) unit (x % unit * 10)

-- ---- in the loop

pub record Dividing (rest unit most now digits count : ℕ) : Type 0 where
  pub within : count ≤ most
  pub quotient : digits ≡ rest * 10 ^ count / unit
  pub now-left : now ≡ left rest unit count
  pub fewest : (k : ℕ) → k < count → 0 < left rest unit k

module _ {rest unit most : ℕ} (less : rest < unit) where
  pub begun : Dividing rest unit most rest 0 0
  begun =
      let whole : rest * 10 ^ 0 ≡ rest = NatL.mul-one rest in
      record {
        within = omega arith;
        quotient = sym (ap (λ n. n / unit) whole ∙ NatL.div-eq_of_lt less);
        now-left = sym (ap (λ n. n % unit) whole ∙ NatL.mod-eq_of_lt less);
        fewest = λ k h. absurd (omega arith);
      }

  module _ {now digits count : ℕ} (d : Dividing rest unit most now digits count) where
    some : 0 < unit
    some = omega (arith, less)

    power : rest * 10 ^ (count + 1) ≡ rest * 10 ^ count * 10
    power = ap (λ n. rest * 10 ^ n) (add-one count) ∙ ap (λ n. rest * n) (NatL.pow-suc 10 count) ∙ sym (NatL.mul_assoc rest (10 ^ count) 10)

    pub next : 0 < now → count < most → Dividing rest unit most (now * 10 % unit) (digits * 10 + now * 10 / unit) (count + 1)
    next here more =
        let x = rest * 10 ^ count in
        record {
          within = omega (arith, more);
          quotient =
              ap₂ (λ q n. q * 10 + n * 10 / unit) d.quotient d.now-left ∙ sym (next-digits x unit some) ∙ ap (λ n. n / unit) (sym power);
          now-left = ap (λ n. n * 10 % unit) d.now-left ∙ sym (next-left x unit some) ∙ ap (λ n. n % unit) (sym power);
          fewest = λ k h. before k (NatL.eq-or-lt_of_le (omega (arith, h)));
        }
      where
        before : (k : ℕ) → (k ≡ count) ⊎ (k < count) → 0 < left rest unit k
        before k (inl is) = subst (λ n. 0 < left rest unit n) (sym is) (subst (λ n. 0 < n) d.now-left here)
        before k (inr h) = d.fewest k h

    -- how great the digits and what is left may be
    pub now-less : now < unit
    now-less = subst (λ n. n < unit) (sym d.now-left) (NatL.mod-lt (rest * 10 ^ count) some)

    pub digits-most : most ≤ 15 → digits < 1_000_000_000_000_000
    digits-most few =
        let power-some : 0 < 10 ^ count = NatL.one-le-pow count 10 (omega arith) in
        let product : rest * 10 ^ count < 10 ^ count * unit =
        subst (λ n. rest * 10 ^ count < n) (NatL.mul_comm unit (10 ^ count)) (NatL.mul-lt-mul_of_pos_right less power-some) in
        let below : rest * 10 ^ count / unit < 10 ^ count = (NatL.div-lt_iff_lt-mul some).1 product in
        let power-most : 10 ^ count ≤ 10 ^ 15 = NatL.pow-le-pow_right (omega arith) {i = count} {j = 15} (omega (arith, d.within, few)) in
        omega (arith, d.quotient, below, power-most)

    -- ---- where it stops

    pub evenly : now ≡ 0 → LongDivision rest unit most (record { digits = digits; count = count; more = false })
    evenly none =
        record {
          within = d.within;
          digits = d.quotient;
          more = ap (ltb 0) (sym none ∙ d.now-left);
          fewest = d.fewest;
          all = λ e. absurd (false≢true e);
        }

    pub at-most : count ≡ most → LongDivision rest unit most (record { digits = digits; count = most; more = ltb 0 now })
    at-most end =
        subst (λ n. LongDivision rest unit most (record { digits = digits; count = n; more = ltb 0 now })) end
        (record {
          within = d.within;
          digits = d.quotient;
          more = ap (ltb 0) d.now-left;
          fewest = d.fewest;
          all = λ e. end;
        })

-- ---- the answer is one only

module _ {rest unit most : ℕ} where
  -- no other has more digits
  no_more : {r t : Places} → LongDivision rest unit most r → LongDivision rest unit most t → t.count ≤ r.count
  no_more {r} {t} p q = by (dec_lt r.count t.count)
    where
      by : Dec (r.count < t.count) → t.count ≤ r.count
      by (yes h) = subst (λ n. t.count ≤ n) (sym (p.all (p.more ∙ lt-ltb 0 _ (q.fewest r.count h)))) q.within
      by (no h) = omega (arith, h)

  pub long-division-one : {r t : Places} → LongDivision rest unit most r → LongDivision rest unit most t → r ≡ t
  long-division-one {r} {t} p q =
      let counts : r.count ≡ t.count = NatL.le_antisymm (no_more q p) (no_more p q) in
      same-places (p.digits ∙ ap (λ n. rest * 10 ^ n / unit) counts ∙ sym q.digits) counts
      (p.more ∙ ap (λ n. ltb 0 (left rest unit n)) counts ∙ sym q.more)
    where
      same-places : r.digits ≡ t.digits → r.count ≡ t.count → r.more ≡ t.more → r ≡ t
      same-places d c m i = record { digits = d i; count = c i; more = m i }

-- ---- worked examples: 1 / 8 is 0.125, and 1 / 3 with two digits 0.33 and more

eighth : LongDivision 1 8 15 (record { digits = 125; count = 3; more = false })
eighth =
    let less : 1 < 8 = omega arith in
    let one : Dividing 1 8 15 2 1 1 = next less (begun less) (omega arith) (omega arith) in
    let two : Dividing 1 8 15 4 12 2 = next less one (omega arith) (omega arith) in
    evenly less (next less two (omega arith) (omega arith)) refl

third : LongDivision 1 3 2 (record { digits = 33; count = 2; more = true })
third =
    let less : 1 < 3 = omega arith in
    let one : Dividing 1 3 2 1 3 1 = next less (begun less) (omega arith) (omega arith) in
    at-most less (next less one (omega arith) (omega arith)) refl
