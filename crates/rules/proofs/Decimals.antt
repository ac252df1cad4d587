-- Numbers as text: a number's digits by those of a tenth of it, the sign and the places after a point, how long the text is, and that the digits spell
-- the number and have no leading zero.
use Prim.Native.Nat.{ℕ, zero, suc, ◌+◌, ◌*◌, ◌/◌, ◌%◌, ◌^◌, ◌≤◌, ◌<◌}
use mathlib.Core.Path.{◌≡◌, refl, sym, ap, ap₂, ◌∙◌}
use mathlib.Core.Bool.{Bool, true, false, cond}
use mathlib.Core.List.{[], ◌∷◌, ◌++◌}
use native.Mathlib.Nat.{pow-succ', one-le-pow, mod-lt, div-add-mod', mul_assoc, mul_comm, suc-mul}
use native.Mathlib.Omega.{arith}
use borrow.Author.Tests.{ltb-false, lt-ltb, le-ltb, ne_eqb, eqb-true, eqb-false}
use lib.Arith.{digits_div, mod-mul}
use lib.Dec.{ltb, eqb}
use lib.IntN.{ℤ, pos, negsuc, neg_ℤ, nat_abs, ◌*ℤ◌, pos-*ℤ-pos, negsuc-*ℤ-pos}
use lib.ListN.{length, length-append}
use Rattle.rules.specs.Decimals.{digit_byte, decimal_in, decimal, sign, signed_decimal, places_of, after_point, decimals_of}

-- a number below 10 is its own digit
pub one-digit : (more n : ℕ) → n < 10 → decimal_in more n ≡ digit_byte n ∷ []
unfolding decimal_in
one-digit zero n h = refl
one-digit (suc more) n h = rw (lt-ltb n 10 h)

-- another has its last digit after those of a tenth of it
pub more-digits : (more n : ℕ) → 10 ≤ n → decimal_in (suc more) n ≡ decimal_in more (n / 10) ++ (digit_byte (n % 10) ∷ [])
unfolding decimal_in
more-digits more n h = rw (le-ltb n 10 h)

-- a number below 10 to the k has at most k digits, and any has one
digits-within : (more k n : ℕ) → n < 10 ^ suc k → length (decimal_in more n) ≤ suc k
unfolding decimal_in
digits-within zero k n h = omega arith
digits-within (suc more) k n h = split (ltb n 10) refl k h (λ k'. digits-within more k' (n / 10))
  where
    split : (t : Bool) → ltb n 10 ≡ t → (k : ℕ) → n < 10 ^ suc k → ((k' : ℕ) → n / 10 < 10 ^ suc k' → length (decimal_in more (n / 10)) ≤ suc k')
        → length (cond t (digit_byte n ∷ []) (decimal_in more (n / 10) ++ (digit_byte (n % 10) ∷ []))) ≤ suc k
    split true e k h ih = omega arith
    split false e zero h ih = absurd (omega (arith, ltb-false n 10 e, pow-succ' 10 zero))
    split false e (suc k) h ih =
        let tenth : n / 10 < 10 ^ suc k = omega (arith, pow-succ' 10 (suc k)) in
        omega (arith, length-append (decimal_in more (n / 10)) (digit_byte (n % 10) ∷ []), ih k tenth)

-- as many before the last as the number has, or more, are enough
enough : (a b n : ℕ) → n ≤ a → n ≤ b → decimal_in a n ≡ decimal_in b n
unfolding decimal_in
enough zero b n h g = sym (one-digit b n (omega arith))
enough (suc a) zero n h g = one-digit (suc a) n (omega arith)
enough (suc a) (suc b) n h g = split (ltb n 10) refl (enough a b (n / 10))
  where
    split : (t : Bool) → ltb n 10 ≡ t → (n / 10 ≤ a → n / 10 ≤ b → decimal_in a (n / 10) ≡ decimal_in b (n / 10))
        → cond t (digit_byte n ∷ []) (decimal_in a (n / 10) ++ (digit_byte (n % 10) ∷ [])) ≡ cond t (digit_byte n ∷ []) (decimal_in b (n / 10) ++ (digit_byte (n % 10) ∷ []))
    split true e ih = refl
    split false e ih =
        let ten = ltb-false n 10 e in
        ap (λ d. d ++ (digit_byte (n % 10) ∷ [])) (ih (omega arith) (omega arith))

pub decimal-one : (n : ℕ) → n < 10 → decimal n ≡ digit_byte n ∷ []
unfolding decimal
decimal-one n h = one-digit n n h

-- the digits of ten or more are those of a tenth, and the last
pub decimal-tenth : (n : ℕ) → 10 ≤ n → decimal n ≡ decimal (n / 10) ++ (digit_byte (n % 10) ∷ [])
unfolding decimal
decimal-tenth zero h = absurd (omega arith)
decimal-tenth (suc m) h = more-digits m (suc m) h ∙ ap (λ d. d ++ (digit_byte (suc m % 10) ∷ [])) (enough m (suc m / 10) (suc m / 10) (omega arith) (omega arith))

pub decimal-within : (k n : ℕ) → n < 10 ^ suc k → length (decimal n) ≤ suc k
unfolding decimal
decimal-within k n h = digits-within n k n h

-- ---- with a sign, and with places after a point

pub sign-within : (z : ℤ) → length (sign z) ≤ 1
unfolding sign
sign-within (pos n) = omega arith
sign-within (negsuc n) = omega arith

pub signed-within : (k : ℕ) (z : ℤ) → nat_abs z < 10 ^ suc k → length (signed_decimal z) ≤ k + 2
unfolding signed_decimal
signed-within k z h = simp length-append (omega (arith, sign-within z, decimal-within k (nat_abs z) h))

-- no unit is left: no digit is left
pub no-places : (places : ℕ) → places_of places 0 ≡ []
unfolding places_of
no-places zero = refl
no-places (suc places) = refl

-- else one digit, and those of what is left
pub one_place : (places units : ℕ) → 0 < units → places_of (suc places) units ≡ digit_byte (units / 10 ^ places) ∷ places_of places (units % 10 ^ places)
unfolding places_of
one_place places units h = rw (ne_eqb units 0 (λ e. omega arith))

-- a number by a power of ten, through its tenth
pub tenth-div : (k u : ℕ) → u / 10 ^ suc k ≡ u / 10 / 10 ^ k
tenth-div k u =
    let p : ℕ = 10 ^ k in
    let positive : 0 < p = omega (arith, one-le-pow k 10 (omega arith)) in
    let whole : u / 10 / p * (p * 10) + u % (p * 10) ≡ u =
    ap (λ (x : ℕ). u / 10 / p * (p * 10) + x) (mod-mul u positive (omega arith))
    ∙ omega (arith, div-add-mod' (u / 10) p, mul_assoc (u / 10 / p) p 10) in
    ap (λ (x : ℕ). u / x) (pow-succ' 10 k ∙ mul_comm 10 p)
    ∙ ap (λ (x : ℕ). x / (p * 10)) (sym whole)
    ∙ digits_div (u / 10 / p) (mod-lt u (omega arith))

pub tenth-mod : (k u : ℕ) → u % 10 ^ suc k ≡ u / 10 % 10 ^ k * 10 + u % 10
tenth-mod k u = ap (λ (x : ℕ). u % x) (pow-succ' 10 k ∙ mul_comm 10 (10 ^ k)) ∙ mod-mul u (omega (arith, one-le-pow k 10 (omega arith))) (omega arith)

tenfold-div : (k u : ℕ) → u * 10 / 10 ^ suc k ≡ u / 10 ^ k
tenfold-div k u = let tenth : u * 10 / 10 ≡ u = omega arith in tenth-div k (u * 10) ∙ ap (λ (x : ℕ). x / 10 ^ k) tenth

tenfold-mod : (k u : ℕ) → u * 10 % 10 ^ suc k ≡ u % 10 ^ k * 10
tenfold-mod k u =
    let tenth : u * 10 / 10 ≡ u = omega arith in
    tenth-mod k (u * 10) ∙ ap (λ (x : ℕ). x % 10 ^ k * 10 + u * 10 % 10) tenth ∙ omega arith

-- a zero at the end is left out: ten times the units, with one place more, have the same digits
pub places-tenfold : (places units : ℕ) → units < 10 ^ places → places_of (suc places) (units * 10) ≡ places_of places units
places-tenfold zero units h = let none : units ≡ 0 = omega arith in rw none (no-places 1 ∙ sym (no-places 0))
places-tenfold (suc places) units h = split (eqb units 0) refl (places-tenfold places (units % 10 ^ places) (mod-lt units (omega (arith, one-le-pow places 10 (omega arith)))))
  where
    split : (t : Bool) → eqb units 0 ≡ t → places_of (suc places) (units % 10 ^ places * 10) ≡ places_of places (units % 10 ^ places)
        → places_of (suc (suc places)) (units * 10) ≡ places_of (suc places) units
    split true e ih = rw (eqb-true units 0 e) (no-places (suc (suc places)) ∙ sym (no-places (suc places)))
    split false e ih =
        let some : 0 < units = omega (arith, eqb-false units 0 e) in
        one_place (suc places) (units * 10) (omega arith)
        ∙ ap₂ (λ (d m : ℕ). digit_byte d ∷ places_of (suc places) m) (tenfold-div places units) (tenfold-mod places units)
        ∙ ap (λ ds. digit_byte (units / 10 ^ places) ∷ ds) ih
        ∙ sym (one_place places units some)

pub places-within : (places units : ℕ) → length (places_of places units) ≤ places
unfolding places_of
places-within zero units = omega arith
places-within (suc places) units = split (eqb units 0) (places-within places (units % 10 ^ places))
  where
    split : (t : Bool) → length (places_of places (units % 10 ^ places)) ≤ places
        → length (cond t [] (digit_byte (units / 10 ^ places) ∷ places_of places (units % 10 ^ places))) ≤ suc places
    split true h = omega arith
    split false h = omega arith

pub no_fraction : (places : ℕ) → after_point places 0 ≡ []
unfolding after_point
no_fraction places = refl

pub some-fraction : (places units : ℕ) → 0 < units → after_point places units ≡ 46 ∷ places_of places units
unfolding after_point
some-fraction places units h = rw (ne_eqb units 0 (λ e. omega arith))

pub fraction-within : (places units : ℕ) → length (after_point places units) ≤ places + 1
unfolding after_point
fraction-within places units = split (eqb units 0)
  where
    split : (t : Bool) → length (cond t [] (46 ∷ places_of places units)) ≤ places + 1
    split true = omega arith
    split false = omega (arith, places-within places units)

-- a sign, k + 1 digits, a point and the places
pub decimals-within : (k places : ℕ) (z : ℤ) → nat_abs z / 10 ^ places < 10 ^ suc k → length (decimals_of places z) ≤ k + places + 3
unfolding decimals_of
decimals-within k places z h =
    simp length-append
    (omega (arith, sign-within z, decimal-within k (nat_abs z / 10 ^ places) h, fraction-within places (nat_abs z % 10 ^ places)))

-- ---- finer units: ten times as many, with one place more, are the same text

fraction-tenfold : (places units : ℕ) → units < 10 ^ places → after_point (suc places) (units * 10) ≡ after_point places units
fraction-tenfold places units h = split (eqb units 0) refl
  where
    split : (t : Bool) → eqb units 0 ≡ t → after_point (suc places) (units * 10) ≡ after_point places units
    split true e = rw (eqb-true units 0 e) (no_fraction (suc places) ∙ sym (no_fraction places))
    split false e =
        let some : 0 < units = omega (arith, eqb-false units 0 e) in
        some-fraction (suc places) (units * 10) (omega arith) ∙ ap (λ ds. 46 ∷ ds) (places-tenfold places units h) ∙ sym (some-fraction places units some)

-- of numbers with one sign
pub decimals-tenfold : (places : ℕ) (x z : ℤ) → sign x ≡ sign z → nat_abs x ≡ nat_abs z * 10 → decimals_of (suc places) x ≡ decimals_of places z
unfolding decimals_of
decimals-tenfold places x z same tenfold =
    rw (same, tenfold, tenfold-div places (nat_abs z), tenfold-mod places (nat_abs z))
    (ap (λ f. sign z ++ (decimal (nat_abs z / 10 ^ places) ++ f)) (fraction-tenfold places (nat_abs z % 10 ^ places) (mod-lt (nat_abs z) (omega (arith, one-le-pow places 10 (omega arith))))))

-- a number of times a number has its sign
pub sign-times : (z : ℤ) (k : ℕ) → sign (z *ℤ pos (suc k)) ≡ sign z
unfolding sign
sign-times (pos n) k = ap sign (pos-*ℤ-pos n (suc k))
sign-times (negsuc n) k =
    let more : suc n * suc k ≡ suc (k + n * suc k) = omega (arith, suc-mul n (suc k)) in
    ap sign (negsuc-*ℤ-pos n (suc k) ∙ ap (λ (m : ℕ). neg_ℤ (pos m)) more)
