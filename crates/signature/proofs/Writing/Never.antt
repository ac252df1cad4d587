-- Never -0, 1. and 1.0: a minus stands only before a number below 0, the last byte is a digit, and after a point it is not 0.
use Prim.Native.Nat.{ℕ, ◌+◌, ◌-◌, ◌^◌, ◌<◌}
use mathlib.Core.Path.{◌≡◌, refl, sym, ap, ◌∙◌}
use mathlib.Core.Bool.{Bool, true, false, not, false≢true}
use mathlib.Core.List.{List, [], ◌∷◌, ◌++◌, append_assoc, append-nil}
use native.Mathlib.Nat.{zero-mul}
use native.Mathlib.Omega.{arith}
use borrow.Author.Tests.{ne_eqb}
use lib.IntN.{ℤ, pos, negsuc, neg_ℤ, nat_abs}
use lib.ListN.{length, get_or, length-append}
use lib.Seq.{get_or-append-add}
use Rattle.rules.specs.Decimals.{decimal, sign, places_of, after_point, decimals_of}
use Rattle.rules.specs.Reading.Lines.{bytes, digit, every, minus_byte, plus_byte, point_byte, starts}
use Rattle.rules.specs.Reading.Numerals.{Exact, absent, digits, minus, plain, spell}
use Rattle.rules.specs.Reading.Numbers.{number_of}
use Rattle.rules.proofs.Tests.{and_both, both-and, or-none}
use Rattle.rules.proofs.Decimals.{no_fraction, some-fraction}
use Rattle.rules.proofs.Picturing.Checks.{every-at}
use Rattle.rules.proofs.Reading.Numbers.{digit-no-sign, digit-range, digits-parts, of-exact}
use Rattle.rules.proofs.Reading.Runs.{append-every, every_append, starts-append, starts_other}
use Rattle.signature.proofs.Decimals.{decimal-digits, decimals-read, is_below, no-zero-last, places-digits, places-some, rest, whole}
use Rattle.signature.proofs.Writing.Fewest.{none_or_some, some-digits}
use Rattle.std.specs.Prelude.{Ok}

-- a minus stands only before a number below 0
pub minus-below : (places : ℕ) (z : ℤ) → starts minus_byte (decimals_of places z) ≡ is_below z
unfolding decimals_of sign starts
minus-below places (negsuc k) = refl
minus-below places (pos k) =
    let number = decimal (whole places (pos k)) in
    let point = after_point places (rest places (pos k)) in
    let digit-first : starts digit (number ++ point) ≡ true = starts-append digit number point (digits-parts number (decimal-digits (whole places (pos k)))).0 in
    starts_other digit minus_byte (λ b h. (or-none (plus_byte b) (minus_byte b) (digit-no-sign b h)).1) (number ++ point) digit-first

-- -0 spells 0
minus-zero : (places limit : ℕ) → Exact places limit (bytes "-0") (pos 0)
unfolding bytes digits starts every spell
minus-zero places limit = record {
  numeral = record { negative = true; whole = bytes "0"; fraction = []; exponent = record { down = false; power = [] } };
  spelt = record {
    sign = bytes "-";
    mantissa = bytes "0";
    power = [];
    word = refl;
    sign_so = minus refl refl;
    mantissa_so = plain refl refl refl;
    power_so = absent refl refl;
  };
  equal = ap (λ (x : ℕ). neg_ℤ (pos x)) (sym (zero-mul (10 ^ (places + 0))));
  within = omega arith;
}

minus-there : starts minus_byte (bytes "-0") ≡ true
unfolding bytes starts
minus-there = refl

-- so it is no number's text: that of 0 has no minus
pub no-minus-zero : (places : ℕ) (z : ℤ) → decimals_of places z ≡ bytes "-0" → ⊥
no-minus-zero places z e =
    let ours : number_of places (nat_abs z) (bytes "-0") ≡ Ok z = ap (number_of places (nat_abs z)) (sym e) ∙ decimals-read places z (nat_abs z) (omega arith) in
    let nought : number_of places (nat_abs z) (bytes "-0") ≡ Ok (pos 0) = of-exact places (nat_abs z) (bytes "-0") (pos 0) (minus-zero places (nat_abs z)) in
    let z-is-0 : z ≡ pos 0 = cc in
    false≢true (ap is_below (sym z-is-0) ∙ sym (minus-below places z) ∙ ap (starts minus_byte) e ∙ minus-there)

abbrev no_point : ℕ → Bool
no_point b = not (point_byte b)

digits-no-point : (l : List ℕ) → every digit l ≡ true → every no_point l ≡ true
unfolding every
digits-no-point [] h = refl
digits-no-point (b ∷ l) h =
    let (d, more) = and_both (digit b) (every digit l) h in
    let r = digit-range b d in
    both-and (no_point b) (every no_point l) (ap not (ne_eqb b 46 (λ e. omega arith))) (digits-no-point l more)

sign-no-point : (z : ℤ) → every no_point (sign z) ≡ true
unfolding every sign
sign-no-point (pos k) = refl
sign-no-point (negsuc k) = refl

no-point-in : (l : List ℕ) → every no_point l ≡ true → (a b : List ℕ) → l ≡ a ++ (46 ∷ b) → ⊥
unfolding every
no-point-in l h a b e = false≢true (append-every no_point a (46 ∷ b) (ap (every no_point) (sym e) ∙ h)).1

module _ (places : ℕ) (z : ℤ) where
  abbrev text : List ℕ
  text = decimals_of places z

  -- digits at the end, after what stands before them
  without-point : rest places z ≡ 0 → text ≡ sign z ++ decimal (whole places z)
  unfolding decimals_of
  without-point h =
      let none : after_point places (rest places z) ≡ [] = ap (after_point places) h ∙ no_fraction places in
      ap (λ (l : List ℕ). sign z ++ l) (ap (λ (l : List ℕ). decimal (whole places z) ++ l) none ∙ append-nil _)

  abbrev through-point : List ℕ
  through-point = sign z ++ (decimal (whole places z) ++ (46 ∷ []))

  with-point : 0 < rest places z → text ≡ through-point ++ places_of places (rest places z)
  unfolding decimals_of
  with-point h =
      let number = decimal (whole places z) in
      let after = places_of places (rest places z) in
      ap (λ (l : List ℕ). sign z ++ (number ++ l)) (some-fraction places (rest places z) h)
      ∙ sym (append_assoc (sign z) (number ++ (46 ∷ [])) after ∙ ap (λ (l : List ℕ). sign z ++ l) (append_assoc number (46 ∷ []) after))

  -- what ends with digits ends with the last of them
  ends_with : (a l : List ℕ) → text ≡ a ++ l → 0 < length l → get_or text (length text - 1) 0 ≡ get_or l (length l - 1) 0
  ends_with a l e h =
      let last : length (a ++ l) - 1 ≡ length a + (length l - 1) = omega (arith, length-append a l) in
      ap (λ (t : List ℕ). get_or t (length t - 1) 0) e ∙ ap (λ (i : ℕ). get_or (a ++ l) i 0) last ∙ get_or-append-add a l (length l - 1) 0

  -- the last byte is a digit, so no point
  pub no-bare-point : digit (get_or text (length text - 1) 0) ≡ true
  no-bare-point =
      let number = decimal (whole places z) in
      let are-digits = decimal-digits (whole places z) in
      none_or_some (rest places z) _
      (λ h. ends (sign z) number (without-point h) (some-digits number are-digits) (digits-parts number are-digits).1)
      (λ h. ends through-point (places_of places (rest places z)) (with-point h) (places-some places z h) (places-digits places z))
    where
      ends : (a l : List ℕ) → text ≡ a ++ l → 0 < length l → every digit l ≡ true → digit (get_or text (length text - 1) 0) ≡ true
      ends a l e h d = ap digit (ends_with a l e h) ∙ every-at digit l d (length l - 1) (omega arith)

  -- and where there is a point it is not 0
  pub no-zero-at-the-end : (a b : List ℕ) → text ≡ a ++ (46 ∷ b) → 48 < get_or text (length text - 1) 0
  no-zero-at-the-end a b e =
      let after = places_of places (rest places z) in
      none_or_some (rest places z) _ (λ h. absurd (no-point-in (sign z ++ decimal (whole places z)) no-point a b (sym (without-point h) ∙ e)))
      (λ h. omega (arith, ends_with through-point after (with-point h) (places-some places z h), no-zero-last places z h))
    where
      no-point : every no_point (sign z ++ decimal (whole places z)) ≡ true
      no-point = every_append no_point (sign z) _ (sign-no-point z) (digits-no-point _ (digits-parts _ (decimal-digits (whole places z))).1)
