-- Numbers as text. A whole number's digits spell it, and lead with no 0. A number of units in plain decimals is spelt exactly, so that reading the text gives
-- it again; the text has no exponent, and after the point no zero stands at its end.
use Prim.Native.Nat.{ℕ, zero, suc, ◌+◌, ◌-◌, ◌*◌, ◌/◌, ◌%◌, ◌^◌, ◌≤◌, ◌<◌}
use mathlib.Core.Path.{◌≡◌, refl, sym, ap, ap₂, subst, ◌∙◌}
use mathlib.Core.Bool.{Bool, true, false, cond}
use mathlib.Core.List.{List, [], ◌∷◌, ◌++◌, append-nil}
use native.Mathlib.Nat.{add-zero, pow-succ', one-le-pow, mod-lt, div-lt_iff_lt-mul, div-add-mod', mul_assoc, mul_comm, add-mul}
use native.Mathlib.Omega.{arith}
use borrow.Author.Tests.{ltb-true, ltb-false, le-leb, eqb-true, eqb-false}
use lib.Dec.{leb, ltb, eqb}
use lib.IntN.{ℤ, pos, negsuc, neg_ℤ, nat_abs, ◌*ℤ◌, pos-*ℤ-pos, pos-*ℤ-negsuc}
use lib.ListN.{length, get_or, length-append, get_or-append}
use Rattle.rules.specs.Decimals.{digit_byte, decimal_in, decimal, sign, places_of, after_point, decimals_of}
use Rattle.rules.specs.Reading.Lines.{bytes, digit, every}
use Rattle.rules.specs.Reading.Numerals.{Exact, Mantissa, Numeral, Sign, Spells, absent, digits, minus, over, plain, pointed, signed, spell, under, unwritten}
use Rattle.rules.specs.Reading.Numbers.{number_of}
use Rattle.rules.proofs.Tests.{both-and}
use Rattle.rules.proofs.Decimals.{no-places, one_place, no_fraction, some-fraction}
use Rattle.rules.proofs.Reading.Numbers.{of-exact, spell-append, digits_more, first-digit}
use Rattle.rules.proofs.Reading.Runs.{every_append}
use Rattle.std.specs.Prelude.{Ok}

-- ---- the digits are those of the number

spells-in : (more n : ℕ) → n ≤ more → spell 0 (decimal_in more n) ≡ n
unfolding decimal_in spell
spells-in zero n h = omega arith
spells-in (suc more) n h = split (ltb n 10) refl (spells-in more (n / 10))
  where
    split : (t : Bool) → ltb n 10 ≡ t → (n / 10 ≤ more → spell 0 (decimal_in more (n / 10)) ≡ n / 10)
        → spell 0 (cond t (digit_byte n ∷ []) (decimal_in more (n / 10) ++ (digit_byte (n % 10) ∷ []))) ≡ n
    split true e ih = omega arith
    split false e ih =
        let g = ltb-false n 10 e in
        omega (arith, spell-append 0 (decimal_in more (n / 10)) (digit_byte (n % 10) ∷ []), ih (omega arith))

-- read as digits they spell it
pub decimal-spells : (n : ℕ) → spell 0 (decimal n) ≡ n
unfolding decimal
decimal-spells n = spells-in n n (omega arith)

-- there is a first digit, and it is 0 only for 0
leads-in : (more n : ℕ) → n ≤ more → 0 < n → (0 < length (decimal_in more n)) × (48 < get_or (decimal_in more n) 0 0)
unfolding decimal_in
leads-in zero n h p = (omega arith, omega arith)
leads-in (suc more) n h p = split (ltb n 10) refl (leads-in more (n / 10))
  where
    split : (t : Bool) → ltb n 10 ≡ t → (n / 10 ≤ more → 0 < n / 10 → (0 < length (decimal_in more (n / 10))) × (48 < get_or (decimal_in more (n / 10)) 0 0))
        → let text = cond t (digit_byte n ∷ []) (decimal_in more (n / 10) ++ (digit_byte (n % 10) ∷ [])) in
        (0 < length text) × (48 < get_or text 0 0)
    split true e ih = (omega arith, omega arith)
    split false e ih =
        let g = ltb-false n 10 e in
        let tenth = ih (omega arith) (omega arith) in
        let last = digit_byte (n % 10) ∷ [] in
        (omega (arith, length-append (decimal_in more (n / 10)) last), omega (arith, get_or-append (decimal_in more (n / 10)) last 0 0 tenth.0))

pub decimal-leads : (n : ℕ) → 0 < n → 48 < get_or (decimal n) 0 0
unfolding decimal
decimal-leads n p = (leads-in n n (omega arith) p).1

-- ---- every byte but the sign and the point is a digit

digit-byte : (d : ℕ) → d < 10 → digit (digit_byte d) ≡ true
digit-byte d h = both-and (leb 48 (48 + d)) (leb (48 + d) 57) (le-leb 48 (48 + d) (omega arith)) (le-leb (48 + d) 57 (omega arith))

single : (d : ℕ) → d < 10 → every digit (digit_byte d ∷ []) ≡ true
unfolding every
single d h = both-and (digit (digit_byte d)) true (digit-byte d h) refl

whole_digits : (more n : ℕ) → n ≤ more → (every digit (decimal_in more n) ≡ true) × (0 < length (decimal_in more n))
unfolding decimal_in
whole_digits zero n h = (single n (omega arith), omega arith)
whole_digits (suc more) n h = split (ltb n 10) refl (whole_digits more (n / 10))
  where
    split : (t : Bool) → ltb n 10 ≡ t → (n / 10 ≤ more → (every digit (decimal_in more (n / 10)) ≡ true) × (0 < length (decimal_in more (n / 10))))
        → let text = cond t (digit_byte n ∷ []) (decimal_in more (n / 10) ++ (digit_byte (n % 10) ∷ [])) in
        (every digit text ≡ true) × (0 < length text)
    split true e ih = (single n (ltb-true n 10 e), omega arith)
    split false e ih =
        let g = ltb-false n 10 e in (
          every_append digit (decimal_in more (n / 10)) _ (ih (omega arith)).0 (single (n % 10) (omega arith)),
          omega (arith, length-append (decimal_in more (n / 10)) (digit_byte (n % 10) ∷ [])),
        )

pub decimal-digits : (n : ℕ) → digits (decimal n) ≡ true
unfolding decimal
decimal-digits n = let h = whole_digits n n (omega arith) in first-digit (decimal_in n n) h.1 h.0

-- ---- the places after the point: digits, the last of them no 0, and what they are worth

-- a text as that of units, 10 to the k of which are 1, after a number m
record Placed (k units m : ℕ) (text : List ℕ) : Type 0 where
  each : every digit text ≡ true
  worth : spell m text * 10 ^ k ≡ 10 ^ length text * (m * 10 ^ k + units)
  some : 0 < units → 0 < length text
  last : 0 < units → 48 < get_or text (length text - 1) 0

none-placed : (k m : ℕ) → Placed k 0 m (places_of k 0)
unfolding every spell
none-placed k m =
    subst (Placed k 0 m) (sym (no-places k)) (record { each = refl; worth = omega arith; some = λ p. absurd (omega arith); last = λ p. absurd (omega arith) })

module _ (k units m : ℕ) (below : units < 10 ^ suc k) (positive : 0 < units) where
  abbrev first : ℕ
  first = units / 10 ^ k

  abbrev left : ℕ
  left = units % 10 ^ k

  abbrev more : List ℕ
  more = places_of k left

  ten : 0 < 10 ^ k
  ten = omega (arith, one-le-pow k 10 (omega arith))

  small : first < 10
  small = (div-lt_iff_lt-mul {k = 10 ^ k} {x = units} {y = 10} ten).1 (omega (arith, pow-succ' 10 k))

  parts : first * 10 ^ k + left ≡ units
  parts = div-add-mod' units (10 ^ k)

  worth-more : Placed k left (m * 10 + first) more → spell (m * 10 + first) more * 10 ^ suc k ≡ 10 ^ suc (length more) * (m * 10 ^ suc k + units)
  worth-more p =
      let p10 = 10 ^ k in
      let q = 10 ^ length more in
      let s = spell (m * 10 + first) more in
      let both : (m * 10 + first) * p10 + left ≡ m * (10 * p10) + units = omega (arith, add-mul (m * 10) first p10, mul_assoc m 10 p10, parts) in
      ap (λ (x : ℕ). s * x) (pow-succ' 10 k)
      ∙ sym (mul_assoc s 10 p10)
      ∙ ap (λ (x : ℕ). x * p10) (mul_comm s 10)
      ∙ mul_assoc 10 s p10
      ∙ ap (λ (x : ℕ). 10 * x) p.worth
      ∙ sym (mul_assoc 10 q _)
      ∙ ap₂ (λ (x y : ℕ). x * y) (sym (pow-succ' 10 (length more))) (both ∙ ap (λ (x : ℕ). m * x + units) (sym (pow-succ' 10 k)))

  last_more : Placed k left (m * 10 + first) more → 48 < get_or (digit_byte first ∷ more) (length (digit_byte first ∷ more) - 1) 0
  last_more p = split (eqb left 0) refl
    where
      split : (t : Bool) → eqb left 0 ≡ t → 48 < get_or (digit_byte first ∷ more) (length (digit_byte first ∷ more) - 1) 0
      split true e =
          let none : more ≡ [] = ap (places_of k) (eqb-true left 0 e) ∙ no-places k in
          rw none (nonzero first parts)
        where
          nonzero : (x : ℕ) → x * 10 ^ k + left ≡ units → 48 < digit_byte x
          nonzero zero h = absurd (omega (arith, eqb-true left 0 e))
          nonzero (suc x) h = omega arith
      split false e =
          let rest : 0 < left = omega (arith, eqb-false left 0 e) in
          let n : suc (length more) - 1 ≡ suc (length more - 1) = omega (arith, p.some rest) in
          rw n (p.last rest)

  more-placed : Placed k left (m * 10 + first) more → Placed (suc k) units m (places_of (suc k) units)
  unfolding every spell
  more-placed p =
      let same : 48 + first - 48 ≡ first = omega arith in
      subst (Placed (suc k) units m) (sym (one_place k units positive))
      record {
        each = both-and (digit (digit_byte first)) (every digit more) (digit-byte first small) p.each;
        worth = ap (λ (x : ℕ). spell (m * 10 + x) more * 10 ^ suc k) same ∙ worth-more p;
        some = λ h. omega arith;
        last = λ h. last_more p;
      }

placed : (k units m : ℕ) → units < 10 ^ k → Placed k units m (places_of k units)
placed zero units m h = let none : units ≡ 0 = omega arith in rw none (none-placed 0 m)
placed (suc k) units m h =
    split (eqb units 0) refl (placed k (units % 10 ^ k) (m * 10 + units / 10 ^ k) (mod-lt units (omega (arith, one-le-pow k 10 (omega arith)))))
  where
    split : (t : Bool) → eqb units 0 ≡ t → Placed k (units % 10 ^ k) (m * 10 + units / 10 ^ k) (places_of k (units % 10 ^ k)) → Placed (suc k) units m (places_of (suc k) units)
    split true e p = rw (eqb-true units 0 e) (none-placed (suc k) m)
    split false e p = more-placed k units m h (omega (arith, eqb-false units 0 e)) p

-- ---- the whole text

abbrev pub is_below : ℤ → Bool
is_below (pos n) = false
is_below (negsuc n) = true

sign-spelt : (z : ℤ) → Sign (is_below z) (sign z)
unfolding sign
sign-spelt (pos n) = unwritten refl refl
sign-spelt (negsuc n) = minus refl refl

module _ (places : ℕ) (z : ℤ) where
  abbrev pub whole : ℕ
  whole = nat_abs z / 10 ^ places

  abbrev pub rest : ℕ
  rest = nat_abs z % 10 ^ places

  rest-placed : Placed places rest whole (places_of places rest)
  rest-placed = placed places rest whole (mod-lt (nat_abs z) (omega (arith, one-le-pow places 10 (omega arith))))

  mantissa : Mantissa (decimal whole ++ after_point places rest) (decimal whole) (places_of places rest)
  mantissa = split (eqb rest 0) refl
    where
      split : (t : Bool) → eqb rest 0 ≡ t → Mantissa (decimal whole ++ after_point places rest) (decimal whole) (places_of places rest)
      split true e =
          let none : rest ≡ 0 = eqb-true rest 0 e in
          plain (ap (λ f. decimal whole ++ f) (ap (after_point places) none ∙ no_fraction places) ∙ append-nil (decimal whole)) (ap (places_of places) none ∙ no-places places) (decimal-digits whole)
      split false e =
          let positive : 0 < rest = omega (arith, eqb-false rest 0 e) in
          pointed (ap (λ f. decimal whole ++ f) (some-fraction places rest positive))
          (digits_more (decimal whole) (places_of places rest) (decimal-digits whole) rest-placed.each)

  -- a sign, digits, and perhaps a point and digits; no exponent
  abbrev pub numeral : Numeral
  numeral = record { negative = is_below z; whole = decimal whole; fraction = places_of places rest; exponent = record { down = false; power = [] } }

  pub decimals-spell : Spells (decimals_of places z) numeral
  unfolding decimals_of
  decimals-spell = record {
    sign = sign z;
    mantissa = decimal whole ++ after_point places rest;
    power = [];
    word = ap (λ t. sign z ++ t) (sym (append-nil (decimal whole ++ after_point places rest)));
    sign_so = sign-spelt z;
    mantissa_so = mantissa;
    power_so = absent refl refl;
  }

  -- the places are digits, and there are some where something is left
  pub places-digits : every digit (places_of places rest) ≡ true
  places-digits = rest-placed.each

  pub places-some : 0 < rest → 0 < length (places_of places rest)
  places-some = rest-placed.some

  -- after the point no zero stands at the end
  pub no-zero-last : 0 < rest → 48 < get_or (places_of places rest) (length (places_of places rest) - 1) 0
  no-zero-last = rest-placed.last

  -- what all its digits spell, times the unit
  pub size : 10 ^ length (places_of places rest) * nat_abs z ≡ spell 0 (decimal whole ++ places_of places rest) * 10 ^ places
  size =
      ap (λ (n : ℕ). 10 ^ length (places_of places rest) * n) (sym (div-add-mod' (nat_abs z) (10 ^ places)))
      ∙ sym rest-placed.worth
      ∙ ap (λ (n : ℕ). n * 10 ^ places) (sym (spell-append 0 (decimal whole) (places_of places rest) ∙ ap (λ (m : ℕ). spell m (places_of places rest)) (decimal-spells whole)))

  pub exactly-worth : pos (under numeral) *ℤ z ≡ signed (is_below z) (over places numeral)
  unfolding spell
  exactly-worth = by z (rw (add-zero, add-zero) size)
    where
      by : (z' : ℤ) → under numeral * nat_abs z' ≡ over places numeral → pos (under numeral) *ℤ z' ≡ signed (is_below z') (over places numeral)
      by (pos n) e = pos-*ℤ-pos (under numeral) n ∙ ap pos e
      by (negsuc n) e = pos-*ℤ-negsuc (under numeral) n ∙ ap (λ (x : ℕ). neg_ℤ (pos x)) e

  -- it is worth exactly what it was made of, and read so
  pub decimals-exact : (limit : ℕ) → nat_abs z ≤ limit → Exact places limit (decimals_of places z) z
  decimals-exact limit h = record { numeral = numeral; spelt = decimals-spell; equal = exactly-worth; within = h }

  pub decimals-read : (limit : ℕ) → nat_abs z ≤ limit → number_of places limit (decimals_of places z) ≡ Ok z
  decimals-read limit h = of-exact places limit (decimals_of places z) z (decimals-exact limit h)

-- ---- some texts

pub half-below-0 : decimals_of 7 (negsuc 4_999_999) ≡ bytes "-0.5"
unfolding decimals_of decimal decimal_in sign after_point places_of bytes
half-below-0 = refl

pub a-thousand : decimals_of 7 (pos 10_000_000_000) ≡ bytes "1000"
unfolding decimals_of decimal decimal_in sign after_point places_of bytes
a-thousand = refl

pub zero-text : decimals_of 7 (pos 0) ≡ bytes "0"
unfolding decimals_of decimal decimal_in sign after_point places_of bytes
zero-text = refl

pub one-text : decimals_of 7 (pos 10_000_000) ≡ bytes "1"
unfolding decimals_of decimal decimal_in sign after_point places_of bytes
one-text = refl

pub a-thousand-below-0 : decimals_of 7 (negsuc 9_999_999_999) ≡ bytes "-1000"
unfolding decimals_of decimal decimal_in sign after_point places_of bytes
a-thousand-below-0 = refl

pub one_unit : decimals_of 7 (pos 1) ≡ bytes "0.0000001"
unfolding decimals_of decimal decimal_in sign after_point places_of bytes
one_unit = refl
