-- The last digits of a number: all of them are its decimal digits, and of the units after a point, the last no 0, those that stand there. They are put
-- from the last on, so that what stands so far is the end of the text.
use Prim.Native.Nat.{ℕ, zero, suc, ◌+◌, ◌-◌, ◌*◌, ◌/◌, ◌%◌, ◌^◌, ◌≤◌, ◌<◌}
use mathlib.Core.Path.{◌≡◌, refl, sym, ap, ap₂, ◌∙◌}
use mathlib.Core.Bool.{Bool, true, false}
use mathlib.Core.List.{List, [], ◌∷◌, ◌++◌, append-nil, append_assoc}
use native.Mathlib.Nat.{pow-succ', one-le-pow, mod-lt}
use native.Mathlib.Omega.{arith}
use borrow.Author.Tests.{ltb-true, ltb-false}
use lib.Dec.{ltb}
use lib.ListN.{length, set, length-append}
use Rattle.rules.specs.Decimals.{digit_byte, decimal, places_of, after_point}
use Rattle.rules.specs.Memory.{spliced}
use Rattle.rules.proofs.Decimals.{decimal-one, decimal-tenth, one_place, some-fraction, tenth-div, tenth-mod, places-tenfold}
use Rattle.rules.proofs.Memory.{splice-none, splice-length, store-before}
use Rattle.lettering.specs.Putting.{Room, Puts}
use Rattle.lettering.specs.Digits.{last_digits}

pub last-length : (k n : ℕ) → length (last_digits k n) ≡ k
unfolding last_digits
last-length zero n = refl
last-length (suc k) n = omega (arith, length-append (last_digits k (n / 10)) (digit_byte (n % 10) ∷ []), last-length k (n / 10))

-- ---- the whole number

-- a number of ten or more has one digit more than a tenth of it
pub digits-tenth : (n : ℕ) → 10 ≤ n → length (decimal n) ≡ suc (length (decimal (n / 10)))
digits-tenth n h = omega (arith, ap length (decimal-tenth n h), length-append (decimal (n / 10)) (digit_byte (n % 10) ∷ []))

pub digits-one : (n : ℕ) → n < 10 → length (decimal n) ≡ 1
digits-one n h = ap length (decimal-one n h)

all_in : (more n : ℕ) → n ≤ more → last_digits (length (decimal n)) n ≡ decimal n
unfolding last_digits
all_in zero n h = rw (digits-one n (omega arith)) (ap (λ d. digit_byte d ∷ []) (omega arith) ∙ sym (decimal-one n (omega arith)))
all_in (suc more) n h = split (ltb n 10) refl (all_in more (n / 10))
  where
    split : (t : Bool) → ltb n 10 ≡ t → (n / 10 ≤ more → last_digits (length (decimal (n / 10))) (n / 10) ≡ decimal (n / 10))
        → last_digits (length (decimal n)) n ≡ decimal n
    split true e ih =
        let small = ltb-true n 10 e in
        let same : n % 10 ≡ n = omega arith in
        rw (digits-one n small) (ap (λ d. digit_byte d ∷ []) same ∙ sym (decimal-one n small))
    split false e ih =
        let ten = ltb-false n 10 e in
        rw (digits-tenth n ten) (ap (λ ds. ds ++ (digit_byte (n % 10) ∷ [])) (ih (omega arith)) ∙ sym (decimal-tenth n ten))

-- as many as it has are all
pub all_digits : (n : ℕ) → last_digits (length (decimal n)) n ≡ decimal n
all_digits n = all_in n n (omega arith)

-- ---- the places after a point

-- the first of the last digits
first-of-last : (k u : ℕ) → u < 10 ^ suc k → last_digits (suc k) u ≡ digit_byte (u / 10 ^ k) ∷ last_digits k (u % 10 ^ k)
unfolding last_digits
first-of-last zero u h = let same : u % 10 ≡ u / 1 = omega (arith, pow-succ' 10 0) in ap (λ d. digit_byte d ∷ []) same
first-of-last (suc k) u h =
    let left : ℕ = u % 10 ^ suc k in
    let tenth : left / 10 ≡ u / 10 % 10 ^ k = omega (arith, tenth-mod k u) in
    let end : left % 10 ≡ u % 10 = omega (arith, tenth-mod k u) in
    ap (λ ds. ds ++ (digit_byte (u % 10) ∷ [])) (first-of-last k (u / 10) (omega (arith, pow-succ' 10 (suc k))))
    ∙ ap₂ (λ d ds. digit_byte d ∷ ds) (sym (tenth-div k u)) (ap₂ (λ m d. last_digits k m ++ (digit_byte d ∷ [])) (sym tenth) (sym end))

-- units of which the last digit is no 0 have all their places
pub places-last : (places units : ℕ) → units < 10 ^ places → 0 < units % 10 → places_of places units ≡ last_digits places units
unfolding places_of last_digits
places-last zero units h some = refl
places-last (suc zero) units h some = one_place 0 units (omega arith) ∙ sym (first-of-last 0 units h)
places-last (suc (suc k)) units h some =
    let left : ℕ = units % 10 ^ suc k in
    let end : left % 10 ≡ units % 10 = omega (arith, tenth-mod k units) in
    one_place (suc k) units (omega arith)
    ∙ ap (λ ds. digit_byte (units / 10 ^ suc k) ∷ ds) (places-last (suc k) left (mod-lt units (omega (arith, one-le-pow (suc k) 10 (omega arith)))) (omega arith))
    ∙ sym (first-of-last (suc k) units h)

-- ---- zeros at the end, left out one after another

-- so many places of so many units are the text that was asked for
pub record Shortened (places units kept digits : ℕ) : Type 0 where
  pub some : 0 < digits
  pub below : digits < 10 ^ kept
  pub same : places_of places units ≡ places_of kept digits

module _ {places units kept digits : ℕ} (s : Shortened places units kept digits) where
  -- a number below 10 to no power above 0 is none
  pub place-left : digits % 10 ≡ 0 → 1 < kept
  place-left zero-last = by kept s.below
    where
      by : (k : ℕ) → digits < 10 ^ k → 1 < k
      by zero h = absurd (omega (arith, s.some))
      by (suc zero) h = absurd (omega (arith, s.some, pow-succ' 10 0))
      by (suc (suc k)) h = omega arith

  pub shorter : digits % 10 ≡ 0 → Shortened places units (kept - 1) (digits / 10)
  shorter zero-last =
      let k : ℕ = kept - 1 in
      let e : kept ≡ suc k = omega (arith, place-left zero-last) in
      let tenfold : digits ≡ digits / 10 * 10 = omega arith in
      let h : digits < 10 * 10 ^ k = omega (arith, s.below, ap (λ (n : ℕ). 10 ^ n) e, pow-succ' 10 k) in
      record {
        some = omega (arith, s.some);
        below = omega arith;
        same = s.same ∙ ap₂ places_of e tenfold ∙ places-tenfold k (digits / 10) (omega arith);
      }

  pub shortest : (digits % 10 ≡ 0 → ⊥) → places_of places units ≡ last_digits kept digits
  shortest end =
      let last : 0 < digits % 10 = positive (digits % 10) end in
      s.same ∙ places-last kept digits s.below last
    where
      positive : (n : ℕ) → (n ≡ 0 → ⊥) → 0 < n
      positive zero f = absurd (f refl)
      positive (suc n) f = omega arith

-- the point and the digits after it
pub fraction-text : (places units kept digits : ℕ) → 0 < units → places_of places units ≡ last_digits kept digits → after_point places units ≡ 46 ∷ last_digits kept digits
fraction-text places units kept digits some e = some-fraction places units some ∙ ap (λ ds. 46 ∷ ds) e

pub fraction-length : (places units kept digits : ℕ) → 0 < units → places_of places units ≡ last_digits kept digits → length (after_point places units) ≡ kept + 1
fraction-length places units kept digits some e = ap length (fraction-text places units kept digits some e) ∙ omega (arith, last-length kept digits)

-- ---- put from the last on

-- i digits of what is left are still to come; the others stand after them
pub record LastInPart (out₀ : List ℕ) (at count n : ℕ) (out : List ℕ) (i left : ℕ) : Type 0 where
  pub done : List ℕ
  pub all : last_digits count n ≡ last_digits i left ++ done
  pub memory : out ≡ spliced out₀ (at + i) done

pub last-begin : (out : List ℕ) (at count n : ℕ) → LastInPart out at count n out count n
last-begin out at count n = record { done = []; all = sym (append-nil (last_digits count n)); memory = sym (splice-none out (at + count)) }

module _ {out₀ : List ℕ} {at count n : ℕ} {out : List ℕ} {i left : ℕ} (p : LastInPart out₀ at count n out i left) (room : Room out₀ at (last_digits count n)) where
  pub last_fits : at + i + length p.done ≤ length out₀
  last_fits = omega (arith, room.fits, ap length p.all, length-append (last_digits i left) p.done, last-length i left)

  pub last-same-length : length out ≡ length out₀
  last-same-length = ap length p.memory ∙ splice-length out₀ (at + i) p.done last_fits

  pub last_turn : 0 < i → LastInPart out₀ at count n (set out (at + (i - 1)) (digit_byte (left % 10))) (i - 1) (left / 10)
  unfolding last_digits
  last_turn more =
      let k : ℕ = i - 1 in
      let e : i ≡ suc k = omega arith in
      let one : ℕ = digit_byte (left % 10) in
      let place : at + i ≡ at + k + 1 = omega arith in
      record {
        done = one ∷ p.done;
        all = p.all ∙ ap (λ (m : ℕ). last_digits m left ++ p.done) e ∙ append_assoc (last_digits k (left / 10)) (one ∷ []) p.done;
        memory = ap (λ o. set o (at + k) one) (p.memory ∙ ap (λ (m : ℕ). spliced out₀ m p.done) place)
            ∙ store-before out₀ (at + k) p.done one (omega (arith, last_fits));
      }

  pub last_end : i ≡ 0 → Puts out₀ at (last_digits count n) (at + count) out
  unfolding last_digits
  last_end e =
      let here : at + i ≡ at = omega arith in
      let all : last_digits count n ≡ p.done = p.all ∙ ap (λ (m : ℕ). last_digits m left ++ p.done) e in
      record {
        fits = room.fits;
        after = omega (arith, last-length count n);
        memory = p.memory ∙ ap₂ (spliced out₀) here (sym all);
      }
