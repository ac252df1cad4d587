-- Of the words without an exponent that are worth a number exactly, its text is the shortest, and no other is so short. By parts: a minus is needed just below 0;
-- the digits before the point spell the same number, and those of the text lead with no 0; those after it are the same but for zeros at the end, and the text's
-- end with none.
use Prim.Native.Nat.{ℕ, zero, suc, ◌+◌, ◌-◌, ◌*◌, ◌^◌, ◌≤◌, ◌<◌}
use mathlib.Core.Path.{◌≡◌, refl, sym, ap, ap₂, ◌∙◌}
use mathlib.Core.Bool.{Bool, true, false, cond, false≢true}
use mathlib.Core.List.{List, [], ◌∷◌, ◌++◌, append-nil}
use native.Mathlib.Nat.{one-le-pow, eq_of_mul-eq-mul_right}
use native.Mathlib.Decide.{dec_le}
use native.Mathlib.Omega.{arith}
use lib.IntN.{ℤ, pos, negsuc, nat_abs}
use lib.ListN.{length, get_or, length-append, get_or-replicate, get_or-append}
use Rattle.whole.proofs.Halves as H
use Rattle.rules.specs.Decimals.{decimal, decimal_in, sign, places_of, after_point, decimals_of}
use Rattle.rules.specs.Reading.Lines.{digit, every, starts}
use Rattle.rules.specs.Reading.Numerals.{Mantissa, Numeral, Power, Sign, absent, digits, minus, over, plain, plus, pointed, signed, spell, under, unwritten, written}
use Rattle.rules.proofs.Decimals.{no-places, no_fraction, some-fraction}
use Rattle.rules.proofs.Reading.Numbers.{digits-parts, first-digit, same_sign, signed-abs, spell-append}
use Rattle.rules.proofs.Reading.Runs.{append-every, every_append}
use Rattle.signature.specs.Fewest.{Fewest, PlainWord}
use Rattle.signature.proofs.Decimals.{decimal-digits, decimal-leads, decimal-spells, decimals-spell, exactly-worth, is_below, no-zero-last, numeral, places-digits, places-some, rest, size, whole}
use Rattle.signature.proofs.Writing.Digits.{no-shorter, same_digits, same-fraction, same_whole, zeros, zeros-before, zeros-digits, zeros-long}

-- ---- a natural number's digits

-- there is at least one
pub some-digits : (w : List ℕ) → digits w ≡ true → 0 < length w
unfolding digits starts
some-digits [] h = absurd (false≢true h)
some-digits (b ∷ w) h = omega arith

zero_one : length (decimal 0) ≡ 1
unfolding decimal decimal_in
zero_one = refl

-- of the digits that spell it, the fewest
pub decimal-fewest : (n : ℕ) (w : List ℕ) → digits w ≡ true → spell 0 w ≡ n → length (decimal n) ≤ length w
decimal-fewest n w h e = by (dec_le (length (decimal n)) (length w))
  where
    missing : ℕ
    missing = length (decimal n) - length w

    -- with the zeros that they lack before them they would be the number's digits
    filled : length w < length (decimal n) → zeros missing ++ w ≡ decimal n
    filled lt =
        let as_long : length (zeros missing ++ w) ≡ length (decimal n) = omega (arith, length-append (zeros missing) w, zeros-long missing) in
        (same_digits 0 0 (zeros missing ++ w) (decimal n)
        (every_append digit (zeros missing) w (zeros-digits missing) (digits-parts w h).1) (digits-parts (decimal n) (decimal-digits n)).1
        as_long (zeros-before missing w ∙ e ∙ sym (decimal-spells n))).1

    clash : length w < length (decimal n) → (m : ℕ) → n ≡ m → ⊥
    clash lt zero q = omega (arith, ap (λ (x : ℕ). length (decimal x)) q, zero_one, some-digits w h)
    clash lt (suc m) q =
        let first : get_or (zeros missing ++ w) 0 0 ≡ 48 =
        get_or-append (zeros missing) w 0 0 (omega (arith, zeros-long missing)) ∙ get_or-replicate {A = ℕ} missing 0 48 0 (omega arith) in
        omega (arith, first, ap (λ (x : List ℕ). get_or x 0 0) (filled lt), decimal-leads n (omega arith))

    by : Dec (length (decimal n) ≤ length w) → length (decimal n) ≤ length w
    by (yes le) = le
    by (no nle) = absurd (clash (omega arith) n refl)

-- and no other digits are so few
pub decimal-one : (n : ℕ) (w : List ℕ) → digits w ≡ true → spell 0 w ≡ n → length w ≤ length (decimal n) → w ≡ decimal n
decimal-one n w h e l =
    (same_digits 0 0 w (decimal n) (digits-parts w h).1 (digits-parts (decimal n) (decimal-digits n)).1
    (omega (arith, l, decimal-fewest n w h e)) (e ∙ sym (decimal-spells n))).1

-- ---- a plain word by its parts

-- a decision between no unit and some
pub none_or_some : (n : ℕ) (C : Type 0) → (n ≡ 0 → C) → (0 < n → C) → C
none_or_some zero C f g = f refl
none_or_some (suc n) C f g = g (omega arith)

-- two fractions of t that are both z, a over f and b over p
crossed : (a b f p z t : ℕ) → 0 < t → f * z ≡ a * t → p * z ≡ b * t → a * p ≡ b * f
crossed a b f p z t h e g =
    eq_of_mul-eq-mul_right t h (a * p) (b * f) (omega (arith, ap (λ (x : ℕ). p * x) e, ap (λ (x : ℕ). f * x) g))

-- one word is no longer than another, and is the other if that is no longer
record Least (ours theirs : List ℕ) : Type 0 where
  least : length ours ≤ length theirs
  one : length theirs ≤ length ours → theirs ≡ ours

itself : (a : List ℕ) → Least a a
itself a = record { least = omega arith; one = λ l. refl }

joined : (a b c d : List ℕ) → Least a b → Least c d → Least (a ++ c) (b ++ d)
joined a b c d p q =
    let ours = length-append a c in
    let theirs = length-append b d in
    record {
      least = omega (arith, p.least, q.least);
      one = λ l. ap₂ (λ (x y : List ℕ). x ++ y) (p.one (omega (arith, l, q.least))) (q.one (omega (arith, l, p.least)));
    }

-- a minus stands before a number below 0, and nothing need stand before another
sign_fits : (negative : Bool) (s : List ℕ) (z : ℤ) → Sign negative s → signed negative (nat_abs z) ≡ z → Least (sign z) s
unfolding sign
sign_fits negative s (pos k) (unwritten e q) h = record { least = omega arith; one = λ l. e }
sign_fits negative s (pos k) (plus e q) h = record { least = omega arith; one = λ l. absurd (omega (arith, ap (length {A = ℕ}) e)) }
sign_fits negative s (pos k) (minus e q) h = record { least = omega arith; one = λ l. absurd (omega (arith, ap (length {A = ℕ}) e)) }
sign_fits negative s (negsuc k) (unwritten e q) h = absurd (false≢true (ap is_below (ap (λ (b : Bool). signed b (suc k)) (sym q) ∙ h)))
sign_fits negative s (negsuc k) (plus e q) h = absurd (false≢true (ap is_below (ap (λ (b : Bool). signed b (suc k)) (sym q) ∙ h)))
sign_fits negative s (negsuc k) (minus e q) h = record { least = omega (arith, ap (length {A = ℕ}) e); one = λ l. e }

module _ (places : ℕ) (z : ℤ) (w : List ℕ) (p : PlainWord places w z) where
  abbrev n : Numeral
  n = p.numeral

  abbrev front : List ℕ
  front = p.spelt.sign

  abbrev body : List ℕ
  body = p.spelt.mantissa

  -- the text's digits before the point and after it, and the latter with the point
  abbrev whole-text : List ℕ
  whole-text = decimal (whole places z)

  abbrev ours : List ℕ
  ours = places_of places (rest places z)

  abbrev after_text : List ℕ
  after_text = after_point places (rest places z)

  -- it has no exponent
  no_power : p.spelt.power ≡ []
  unfolding digits starts
  no_power = by p.spelt.power_so
    where
      by : Power p.spelt.power n.exponent → p.spelt.power ≡ []
      by (absent e q) = e
      by (written mark s e m g d) = absurd (false≢true (ap digits (sym p.no_exponent) ∙ d))

  two-parts : w ≡ front ++ body
  two-parts = p.spelt.word ∙ ap (λ (l : List ℕ). front ++ (body ++ l)) no_power ∙ ap (λ (l : List ℕ). front ++ l) (append-nil body)

  -- the digits before and after the point
  both-digits : (every digit n.whole ≡ true) × (every digit n.fraction ≡ true)
  unfolding every
  both-digits = by p.spelt.mantissa_so
    where
      by : Mantissa body n.whole n.fraction → (every digit n.whole ≡ true) × (every digit n.fraction ≡ true)
      by (plain e f d) = ((digits-parts _ d).1, ap (every digit) f)
      by (pointed e d) = append-every digit n.whole n.fraction (digits-parts _ d).1

  -- ---- its worth

  no-scale : (down : Bool) → (cond down 0 (spell 0 n.exponent.power) ≡ 0) × (cond down (spell 0 n.exponent.power) 0 ≡ 0)
  unfolding spell
  no-scale true = (refl, ap (spell 0) p.no_exponent)
  no-scale false = (ap (spell 0) p.no_exponent, refl)

  worth : 10 ^ length n.fraction * nat_abs z ≡ spell 0 (n.whole ++ n.fraction) * 10 ^ places
  worth =
      let (up, down) = no-scale n.exponent.down in
      let bottom : length n.fraction ≡ length n.fraction + cond n.exponent.down (spell 0 n.exponent.power) 0 = omega (arith, down) in
      let top : places + cond n.exponent.down 0 (spell 0 n.exponent.power) ≡ places = omega (arith, up) in
      ap (λ (x : ℕ). 10 ^ x * nat_abs z) bottom
      ∙ sym (H.product-abs (pos (under n)) z)
      ∙ ap nat_abs p.equal
      ∙ signed-abs n.negative (over places n)
      ∙ ap (λ (x : ℕ). spell 0 (n.whole ++ n.fraction) * 10 ^ x) top

  same-worth : spell (spell 0 n.whole) n.fraction * 10 ^ length ours ≡ spell (spell 0 whole-text) ours * 10 ^ length n.fraction
  same-worth =
      let ten : 0 < 10 ^ places = one-le-pow places 10 (omega arith) in
      ap (λ (x : ℕ). x * 10 ^ length ours) (sym (spell-append 0 n.whole n.fraction))
      ∙ crossed (spell 0 (n.whole ++ n.fraction)) (spell 0 (whole-text ++ ours)) (10 ^ length n.fraction) (10 ^ length ours) (nat_abs z) (10 ^ places) ten
      worth (size places z)
      ∙ ap (λ (x : ℕ). x * 10 ^ length n.fraction) (spell-append 0 whole-text ours)

  -- ---- part by part

  sign_part : Least (sign z) front
  sign_part =
      sign_fits n.negative front z p.spelt.sign_so
      (same_sign n.negative (over places n) (under n) z (one-le-pow _ 10 (omega arith)) p.equal)

  whole_part : Least whole-text n.whole
  whole_part =
      let spelt : spell 0 n.whole ≡ whole places z =
      same_whole (spell 0 n.whole) (spell 0 whole-text) n.fraction ours both-digits.1 (places-digits places z) same-worth
      ∙ decimal-spells (whole places z) in
      let all_digits : digits n.whole ≡ true = first-digit n.whole p.whole_there both-digits.0 in
      record { least = decimal-fewest (whole places z) n.whole all_digits spelt; one = decimal-one (whole places z) n.whole all_digits spelt }

  places-part : Least ours n.fraction
  places-part = record { least = least; one = λ l. one (omega (arith, l, least)) }
    where
      left : 0 < length ours → 0 < rest places z
      left some =
          none_or_some (rest places z) (0 < rest places z)
          (λ none. absurd (omega (arith, some, ap (length {A = ℕ}) (ap (places_of places) none ∙ no-places places)))) (λ h. h)

      least : length ours ≤ length n.fraction
      least =
          no-shorter (spell 0 n.whole) (spell 0 whole-text) n.fraction ours both-digits.1 (places-digits places z) same-worth
          (λ some. no-zero-last places z (left some))

      one : length n.fraction ≡ length ours → n.fraction ≡ ours
      one = same-fraction (spell 0 n.whole) (spell 0 whole-text) n.fraction ours both-digits.1 (places-digits places z) same-worth

  -- a point is needed where something is left after the whole
  after_none : n.fraction ≡ [] → Least after_text []
  after_none f =
      none_or_some (rest places z) _ (λ h. rw (h, no_fraction) (itself []))
      (λ h. absurd (omega (arith, places-some places z h, places-part.least, ap (length {A = ℕ}) f)))

  -- and only there
  after-point : Least after_text (46 ∷ n.fraction)
  after-point =
      none_or_some (rest places z) _ (λ h. rw (h, no_fraction) bare)
      (λ h. rw (some-fraction places (rest places z) h) (joined (46 ∷ []) (46 ∷ []) ours n.fraction (itself _) places-part))
    where
      bare : Least [] (46 ∷ n.fraction)
      bare = record { least = omega arith; one = λ l. absurd (omega arith) }

  mantissa-part : Least (whole-text ++ after_text) body
  mantissa-part = by p.spelt.mantissa_so
    where
      with_tail : (tail : List ℕ) → body ≡ n.whole ++ tail → Least after_text tail → Least (whole-text ++ after_text) body
      with_tail tail e h = rw e (joined whole-text n.whole after_text tail whole_part h)

      by : Mantissa body n.whole n.fraction → Least (whole-text ++ after_text) body
      by (plain e f d) = with_tail [] (e ∙ sym (append-nil n.whole)) (after_none f)
      by (pointed e d) = with_tail (46 ∷ n.fraction) e after-point

  all-parts : Least (decimals_of places z) w
  unfolding decimals_of
  all-parts = rw two-parts (joined (sign z) front (whole-text ++ after_text) body sign_part mantissa-part)

-- ---- the theorems

-- a number's text is a plain word for it
pub decimals-plain : (places : ℕ) (z : ℤ) → PlainWord places (decimals_of places z) z
decimals-plain places z = record {
  numeral = numeral places z;
  spelt = decimals-spell places z;
  no_exponent = refl;
  whole_there = some-digits _ (decimal-digits (whole places z));
  equal = exactly-worth places z;
}

-- and no other is shorter
pub decimals-fewest : (places : ℕ) (z : ℤ) → Fewest places (decimals_of places z) z
decimals-fewest places z = record { plain = decimals-plain places z; shortest = λ u p. (all-parts places z u p).least }

-- a plain word that is no longer is the same word
pub no-other-as-short : (places : ℕ) (z : ℤ) (w : List ℕ) → PlainWord places w z → length w ≤ length (decimals_of places z) → w ≡ decimals_of places z
no-other-as-short places z w p l = (all-parts places z w p).one l

-- so the shortest word is one
pub fewest-one : (places : ℕ) (z : ℤ) (w : List ℕ) → Fewest places w z → w ≡ decimals_of places z
fewest-one places z w f = no-other-as-short places z w f.plain (f.shortest (decimals_of places z) (decimals-plain places z))
