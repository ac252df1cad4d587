-- A word is read as a number just where it spells one, with its exact value.
use Prim.Native.Nat.{ℕ, ◌+◌, ◌-◌, ◌*◌, ◌/◌, ◌%◌, ◌≤◌, ◌<◌}
use mathlib.Core.Path.{◌≡◌, refl, sym, ap, subst, ◌∙◌}
use mathlib.Core.Bool.{Bool, true, false, cond, ◌&&◌, ◌||◌}
use mathlib.Core.List.{List, [], ◌∷◌, ◌++◌, append_assoc}
use native.Mathlib.Nat.{mul_comm, one-mul, mul-le-mul_right, le_of_mul-le-mul_right, div-add-mod', mul-div_cancel, mul-mod_left, one-le-pow}
use native.Mathlib.Omega.{arith}
use borrow.Author.Tests.{ltb-false, le-ltb, leb-true, eqb-true, eq-eqb, ne_eqb}
use lib.Dec.{eqb, ltb, leb}
use lib.IntN.{ℤ, pos, neg_ℤ, nat_abs, ◌*ℤ◌}
use lib.ListN.{length}
use Rattle.whole.specs.Integers.{up, dn}
use Rattle.whole.proofs.Halves as H
use Rattle.rules.specs.Reading.Lines.{after, blank, digit, e_byte, every, hash, minus_byte, number_byte, plus_byte, point_byte, run, starts}
use Rattle.rules.specs.Reading.Numerals.{spell, Exact, Exponent, Mantissa, Numeral, Power, Sign, Spells, absent, digits, minus, over, plain, plus, pointed, signed, under, unwritten, written}
use Rattle.rules.specs.Reading.Numbers.{assemble, exponent_of, numeral_with, number_of, numeral_of, settle, unsigned, value_of}
use Rattle.rules.proofs.Tests.{no-some, and_both, both-and, or-none, none_or}
use Rattle.rules.proofs.Reading.Runs.{run-after, run-every, run-starts, run-append, starts-append, starts-either, starts_other, every_append, every-starts, append-every}
use Rattle.std.specs.Prelude.{Err, None, Ok, Option, Some}
use Rattle.rules.specs.declared.NumberFault.TheVariants.{Beyond, Finer}

abbrev pub sign_byte : ℕ → Bool
sign_byte b = plus_byte b || minus_byte b

-- ---- bytes of one kind are of no other

or-either : (a b : Bool) (C : Type 0) → a || b ≡ true → (a ≡ true → C) → (b ≡ true → C) → C
or-either true b C h f g = f refl
or-either false b C h f g = g h

pub digit-range : (b : ℕ) → digit b ≡ true → (48 ≤ b) × (b ≤ 57)
digit-range b h = let e = and_both (leb 48 b) (leb b 57) h in (leb-true 48 b e.0, leb-true b 57 e.1)

pub number-digit : (b : ℕ) → digit b ≡ true → number_byte b ≡ true
number-digit b h = rw h

pub number-range : (b : ℕ) → number_byte b ≡ true → (43 ≤ b) × (b ≤ 57)
number-range b h =
    or-either _ (point_byte b) _ h
    (λ h₁. or-either _ (minus_byte b) _ h₁ (λ h₂. or-either (digit b) (plus_byte b) _ h₂ (λ d. let r = digit-range b d in (omega arith, r.1)) (one 43 (omega arith) (omega arith))) (one 45 (omega arith) (omega arith)))
    (one 46 (omega arith) (omega arith))
  where
    one : (k : ℕ) → 43 ≤ k → k ≤ 57 → eqb b k ≡ true → (43 ≤ b) × (b ≤ 57)
    one k lo hi e = let same = eqb-true b k e in (omega arith, omega arith)

pub number-no-hash : (b : ℕ) → number_byte b ≡ true → hash b ≡ false
number-no-hash b h = ne_eqb b 35 (λ e. omega (arith, (number-range b h).0))

pub number-no-blank : (b : ℕ) → number_byte b ≡ true → blank b ≡ false
number-no-blank b h =
    let least = (number-range b h).0 in
    none_or (eqb b 32) (eqb b 9) (ne_eqb b 32 (λ e. omega arith)) (ne_eqb b 9 (λ e. omega arith))

pub digit-no-sign : (b : ℕ) → digit b ≡ true → sign_byte b ≡ false
digit-no-sign b h = let r = digit-range b h in none_or _ _ (ne_eqb b 43 (λ e. omega arith)) (ne_eqb b 45 (λ e. omega arith))

e-no-digit : (b : ℕ) → e_byte b ≡ true → digit b ≡ false
e-no-digit b h = or-either (eqb b 101) (eqb b 69) _ h (λ e. rw (eqb-true b 101 e)) (λ e. rw (eqb-true b 69 e))

e-no-point : (b : ℕ) → e_byte b ≡ true → point_byte b ≡ false
e-no-point b h = or-either (eqb b 101) (eqb b 69) _ h (λ e. rw (eqb-true b 101 e)) (λ e. rw (eqb-true b 69 e))

-- ---- the sign

pub record Unsigned (w : List ℕ) : Type 0 where
  pub sign : List ℕ
  pub word : w ≡ sign ++ unsigned w
  pub sign_so : Sign (starts minus_byte w) sign

pub unsign : (w : List ℕ) → Unsigned w
unfolding unsigned starts
unsign [] = record { sign = []; word = refl; sign_so = unwritten refl refl }
unsign (b ∷ rest) = split (eqb b 43) refl (eqb b 45) refl
  where
    split : (p : Bool) → eqb b 43 ≡ p → (m : Bool) → eqb b 45 ≡ m → Unsigned (b ∷ rest)
    split true e m f =
        let x : b ≡ 43 = eqb-true b 43 e in
        record { sign = b ∷ []; word = rw e; sign_so = plus (ap (λ (c : ℕ). c ∷ []) x) (rw x) }
    split false e true f =
        let x : b ≡ 45 = eqb-true b 45 f in
        record { sign = b ∷ []; word = rw (e, f); sign_so = minus (ap (λ (c : ℕ). c ∷ []) x) f }
    split false e false f = record { sign = []; word = rw (e, f); sign_so = unwritten refl f }

-- a sign put in front of what has none
pub sign-on : (negative : Bool) (s x : List ℕ) → Sign negative s → starts sign_byte x ≡ false → (unsigned (s ++ x) ≡ x) × (starts minus_byte (s ++ x) ≡ negative)
unfolding unsigned starts
sign-on negative s x (plus e n) h = (rw e, rw (e, n))
sign-on negative s x (minus e n) h = (rw e, rw (e, n))
sign-on negative s [] (unwritten e n) h = (rw e, rw (e, n))
sign-on negative s (b ∷ x) (unwritten e n) h =
    let o = or-none (eqb b 43) (eqb b 45) h in
    (rw (e, o.0, o.1), rw (e, n) o.1)

-- ---- the exponent

-- the number that digits spell, in two parts
pub spell-append : (m : ℕ) (a b : List ℕ) → spell m (a ++ b) ≡ spell (spell m a) b
unfolding spell
spell-append m [] b = refl
spell-append m (d ∷ a) b = spell-append (m * 10 + (d - 48)) a b

pub digits-parts : (w : List ℕ) → digits w ≡ true → (starts digit w ≡ true) × (every digit w ≡ true)
unfolding digits
digits-parts w h = and_both (starts digit w) (every digit w) h

pub parts-digits : (w : List ℕ) → starts digit w ≡ true → every digit w ≡ true → digits w ≡ true
unfolding digits
parts-digits w s e = both-and _ _ s e

-- digits are there where there are any
pub first-digit : (l : List ℕ) → 0 < length l → every digit l ≡ true → digits l ≡ true
first-digit l h e = parts-digits l (every-starts digit l h e) e

-- more digits after digits
pub digits_more : (a b : List ℕ) → digits a ≡ true → every digit b ≡ true → digits (a ++ b) ≡ true
digits_more a b h e =
    let k = digits-parts a h in
    parts-digits (a ++ b) (starts-append digit a b k.0) (every_append digit a b k.1 e)

digits-unsigned : (w : List ℕ) → digits w ≡ true → starts sign_byte w ≡ false
digits-unsigned w h = starts_other digit sign_byte digit-no-sign w (digits-parts w h).0

pub power-of : (l : List ℕ) (x : Exponent) → exponent_of l ≡ Some x → Power l x
unfolding exponent_of
power-of [] x h = absent refl cc
power-of (b ∷ rest) x h = split (e_byte b && digits (unsigned rest)) refl h
  where
    split : (t : Bool) → e_byte b && digits (unsigned rest) ≡ t → cond t (Some (record { down = starts minus_byte rest; power = unsigned rest })) None ≡ Some x → Power (b ∷ rest) x
    split true e g =
        let q : ◌≡◌ {A = Exponent} (record { down = starts minus_byte rest; power = unsigned rest }) x = cc in
        let k = and_both (e_byte b) (digits (unsigned rest)) e in
        let u : Unsigned rest = unsign rest in
        subst (λ (y : Exponent). Power (b ∷ rest) y) q
        (written b u.sign (ap (λ (l : List ℕ). b ∷ l) u.word) k.0 u.sign_so k.1)
    split false e g = absurd (no-some x (sym g))

pub record Exponential (l : List ℕ) (x : Exponent) : Type 0 where
  pub read : exponent_of l ≡ Some x
  pub no_digit : starts digit l ≡ false
  pub no-point : starts point_byte l ≡ false

pub of-power : (l : List ℕ) (x : Exponent) → Power l x → Exponential l x
unfolding exponent_of starts
of-power l x (absent e q) = record { read = rw (e, q); no_digit = rw e; no-point = rw e }
of-power l x (written mark s e m g d) =
    let k = sign-on x.down s x.power g (digits-unsigned x.power d) in
    record { read = rw (e, m, k.0, d, k.1); no_digit = rw e (e-no-digit mark m); no-point = rw e (e-no-point mark m) }

-- ---- the whole

pub record Assembled (there negative : Bool) (whole fraction : List ℕ) (o : Option Exponent) (n : Numeral) : Type 0 where
  pub are-there : there ≡ true
  pub exponent : o ≡ Some n.exponent
  pub negative-so : negative ≡ n.negative
  pub whole_so : whole ≡ n.whole
  pub fraction_so : fraction ≡ n.fraction

assembled : (there negative : Bool) (whole fraction : List ℕ) (o : Option Exponent) (n : Numeral) → assemble there negative whole fraction o ≡ Some n
    → Assembled there negative whole fraction o n
assembled there negative whole fraction None n h = absurd (no-some n (sym h))
assembled false negative whole fraction (Some e) n h = absurd (no-some n (sym h))
assembled true negative whole fraction (Some e) n h =
    let q : ◌≡◌ {A = Numeral} (record { negative = negative; whole = whole; fraction = fraction; exponent = e }) n = cc in
    record {
      are-there = refl;
      exponent = ap (λ (m : Numeral). Some m.exponent) q;
      negative-so = ap (λ (m : Numeral). m.negative) q;
      whole_so = ap (λ (m : Numeral). m.whole) q;
      fraction_so = ap (λ (m : Numeral). m.fraction) q;
    }

-- the digits that must be there are asked first
pub assemble-first : (there negative : Bool) (whole fraction : List ℕ) (x : Option Exponent)
    → assemble there negative whole fraction x ≡ cond there (assemble true negative whole fraction x) None
assemble-first true negative whole fraction x = refl
assemble-first false negative whole fraction None = refl
assemble-first false negative whole fraction (Some x) = refl

-- what follows a sign
pub record Body (negative : Bool) (l : List ℕ) (n : Numeral) : Type 0 where
  pub negative-so : negative ≡ n.negative
  pub mantissa : List ℕ
  pub power : List ℕ
  pub word : l ≡ mantissa ++ power
  pub mantissa_so : Mantissa mantissa n.whole n.fraction
  pub power_so : Power power n.exponent

body_of : (negative : Bool) (whole tail : List ℕ) (n : Numeral) → every digit whole ≡ true → numeral_with negative whole tail ≡ Some n → Body negative (whole ++ tail) n
unfolding numeral_with
body_of negative whole [] n d h =
    let a = assembled _ _ _ _ _ n h in
    record {
      negative-so = a.negative-so;
      mantissa = whole;
      power = [];
      word = refl;
      mantissa_so = plain a.whole_so (sym a.fraction_so) (rw a.whole_so at (parts-digits whole a.are-there d));
      power_so = power-of [] n.exponent a.exponent;
    }
body_of negative whole (b ∷ rest) n d h = split (eqb b 46) refl
  where
    split : (t : Bool) → eqb b 46 ≡ t → Body negative (whole ++ b ∷ rest) n
    split true e =
        let a = assembled (starts digit whole || starts digit rest) negative whole (run digit rest) (exponent_of (after digit rest)) n (rw e at h) in
        let first : starts digit (whole ++ run digit rest) ≡ true =
        starts-either digit whole (run digit rest) d ∙ ap (λ (t : Bool). starts digit whole || t) (run-starts digit rest) ∙ a.are-there in
        record {
          negative-so = a.negative-so;
          mantissa = whole ++ b ∷ run digit rest;
          power = after digit rest;
          word = rw (append_assoc) (ap (λ (l : List ℕ). whole ++ b ∷ l) (run-after digit rest));
          mantissa_so = pointed
              (rw (← a.whole_so, ← a.fraction_so) (ap (λ (c : ℕ). whole ++ c ∷ run digit rest) (eqb-true b 46 e)))
              (rw (a.whole_so, a.fraction_so) at (parts-digits (whole ++ run digit rest) first (every_append digit whole (run digit rest) d (run-every digit rest))));
          power_so = power-of (after digit rest) n.exponent a.exponent;
        }
    split false e =
        let a = assembled (starts digit whole) negative whole [] (exponent_of (b ∷ rest)) n (rw e at h) in
        record {
          negative-so = a.negative-so;
          mantissa = whole;
          power = b ∷ rest;
          word = refl;
          mantissa_so = plain a.whole_so (sym a.fraction_so) (rw a.whole_so at (parts-digits whole a.are-there d));
          power_so = power-of (b ∷ rest) n.exponent a.exponent;
        }

pub spells-of : (w : List ℕ) (n : Numeral) → numeral_of w ≡ Some n → Spells w n
unfolding numeral_of
spells-of w n h =
    let u : Unsigned w = unsign w in
    let b : Body (starts minus_byte w) (run digit (unsigned w) ++ after digit (unsigned w)) n =
    body_of (starts minus_byte w) (run digit (unsigned w)) (after digit (unsigned w)) n (run-every digit (unsigned w)) h in
    record {
      sign = u.sign;
      mantissa = b.mantissa;
      power = b.power;
      word = u.word ∙ ap (λ (l : List ℕ). u.sign ++ l) (run-after digit (unsigned w) ∙ b.word);
      sign_so = rw b.negative-so at u.sign_so;
      mantissa_so = b.mantissa_so;
      power_so = b.power_so;
    }

-- ---- and back

record Parsed (l : List ℕ) (n : Numeral) : Type 0 where
  no_sign : starts sign_byte l ≡ false
  reads : numeral_with n.negative (run digit l) (after digit l) ≡ Some n

parsed : (m p : List ℕ) (n : Numeral) → Mantissa m n.whole n.fraction → Power p n.exponent → Parsed (m ++ p) n
unfolding numeral_with starts every
parsed m p n (plain e f d) g =
    let x : Exponential p n.exponent = of-power p n.exponent g in
    let k = digits-parts n.whole d in
    let r = run-append digit n.whole p k.1 x.no_digit in
    record {
      no_sign = rw e (starts_other digit sign_byte digit-no-sign (n.whole ++ p) (starts-append digit n.whole p k.0));
      reads = rw (e, r.0, r.1) (plainly p x.read x.no-point k.0 f);
    }
  where
    plainly : (p : List ℕ) → exponent_of p ≡ Some n.exponent → starts point_byte p ≡ false → starts digit n.whole ≡ true → n.fraction ≡ []
        → numeral_with n.negative n.whole p ≡ Some n
    plainly [] x q s f = rw (x, s, ← f)
    plainly (b ∷ rest) x q s f = rw (q, x, s, ← f)
parsed m p n (pointed e d) g =
    let x : Exponential p n.exponent = of-power p n.exponent g in
    let k = digits-parts (n.whole ++ n.fraction) d in
    let w = append-every digit n.whole n.fraction k.1 in
    let r = run-append digit n.fraction p w.1 x.no_digit in
    let l : m ++ p ≡ n.whole ++ 46 ∷ (n.fraction ++ p) = ap (λ (l : List ℕ). l ++ p) e ∙ append_assoc n.whole (46 ∷ n.fraction) p in
    let q = run-append digit n.whole (46 ∷ (n.fraction ++ p)) w.0 refl in
    let there : starts digit n.whole || starts digit (n.fraction ++ p) ≡ true =
    sym (starts-either digit n.whole (n.fraction ++ p) w.0)
    ∙ ap (starts digit) (sym (append_assoc n.whole n.fraction p))
    ∙ starts-append digit (n.whole ++ n.fraction) p k.0 in
    record { no_sign = rw l (first-sign n.whole w.0); reads = rw (l, q.0, q.1, r.0, r.1, there, x.read) }
  where
    first-sign : (a : List ℕ) → every digit a ≡ true → starts sign_byte (a ++ 46 ∷ (n.fraction ++ p)) ≡ false
    first-sign [] h = refl
    first-sign (c ∷ a) h = digit-no-sign c (and_both (digit c) (every digit a) h).0

pub of-spells : (w : List ℕ) (n : Numeral) → Spells w n → numeral_of w ≡ Some n
unfolding numeral_of
of-spells w n h =
    let p : Parsed (h.mantissa ++ h.power) n = parsed h.mantissa h.power n h.mantissa_so h.power_so in
    let s = sign-on n.negative h.sign (h.mantissa ++ h.power) h.sign_so p.no_sign in
    rw (h.word, s.0, s.1) p.reads

-- ---- the value

pub signed-abs : (neg : Bool) (k : ℕ) → nat_abs (signed neg k) ≡ k
signed-abs false k = refl
signed-abs true k = H.neg-abs (pos k)

-- so many times a signed magnitude
pub signed-times : (neg : Bool) (q k : ℕ) → pos q *ℤ signed neg k ≡ signed neg (k * q)
signed-times false q k = ap pos (mul_comm q k)
signed-times true q k =
    let z : ℤ = neg_ℤ (pos k) in
    H.eq-by (pos q *ℤ z) (neg_ℤ (pos (k * q)))
    (omega (arith, (H.times q z).ups ∙ ap (λ x. q * x) (H.neg (pos k)).ups, (H.times q z).dns ∙ ap (λ x. q * x) (H.neg (pos k)).dns, H.neg (pos (k * q)), mul_comm q k))

-- a positive multiple of a number has its sign
pub same_sign : (neg : Bool) (p q : ℕ) (v : ℤ) → 1 ≤ q → pos q *ℤ v ≡ signed neg p → signed neg (nat_abs v) ≡ v
same_sign false p q v h e =
    H.eq-by (pos (nat_abs v)) v (omega (arith, H.split v, (H.times q v).dns, ap dn e, mul-le-mul_right (dn v) h, one-mul (dn v)))
same_sign true p q v h e =
    H.eq-by (neg_ℤ (pos (nat_abs v))) v
    (omega (arith, H.split v, H.neg (pos (nat_abs v)), (H.times q v).ups, ap up e, H.neg (pos p), mul-le-mul_right (up v) h, one-mul (up v)))

module _ (limit : ℕ) (neg : Bool) (p q : ℕ) (q-pos : 1 ≤ q) where
  settled-value : (v : ℤ) → settle limit neg p q ≡ Ok v → (pos q *ℤ v ≡ signed neg p) × (nat_abs v ≤ limit)
  unfolding settle
  settled-value v h = split (ltb (limit * q) p) refl (eqb (p % q) 0) refl h
    where
      split : (b : Bool) → ltb (limit * q) p ≡ b → (z : Bool) → eqb (p % q) 0 ≡ z → cond b (Err Beyond) (cond z (Ok (signed neg (p / q))) (Err Finer)) ≡ Ok v
          → (pos q *ℤ v ≡ signed neg p) × (nat_abs v ≤ limit)
      split true e z f g = let z : ◌≡◌ {A = ℕ} 0 1 = cc in absurd (omega arith)
      split false e false f g = let z : ◌≡◌ {A = ℕ} 0 1 = cc in absurd (omega arith)
      split false e true f g =
          let x : signed neg (p / q) ≡ v = cc in
          let y : nat_abs v ≡ p / q = ap nat_abs (sym x) ∙ signed-abs neg (p / q) in
          let m : p / q * q ≡ p = (omega (arith, div-add-mod' p q, eqb-true (p % q) 0 f)) in
          (rw (← x) (signed-times neg q (p / q) ∙ ap (signed neg) m), rw y (le_of_mul-le-mul_right {k = q} (rw m (ltb-false (limit * q) p e)) q-pos))

  value-settled : (v : ℤ) → pos q *ℤ v ≡ signed neg p → nat_abs v ≤ limit → settle limit neg p q ≡ Ok v
  unfolding settle
  value-settled v e l =
      let n : nat_abs v * q ≡ p = mul_comm (nat_abs v) q ∙ sym (H.product-abs (pos q) v) ∙ ap nat_abs e ∙ signed-abs neg p in
      let a : p / q ≡ nat_abs v = ap (λ (x : ℕ). x / q) (sym n) ∙ mul-div_cancel (nat_abs v) q-pos in
      let b : p % q ≡ 0 = ap (λ (x : ℕ). x % q) (sym n) ∙ mul-mod_left (nat_abs v) q in
      let c : nat_abs v * q ≤ limit * q = mul-le-mul_right q l in
      rw (le-ltb (limit * q) p (omega arith), eq-eqb (p % q) 0 b, a) (ap Ok (same_sign neg p q v q-pos e))

under-pos : (n : Numeral) → 1 ≤ under n
under-pos n = one-le-pow _ 10 (omega arith)

pub exact-of : (places limit : ℕ) (w : List ℕ) (v : ℤ) → number_of places limit w ≡ Ok v → Exact places limit w v
unfolding number_of
exact-of places limit w v h = split (numeral_of w) refl h
  where
    split : (o : Option Numeral) → numeral_of w ≡ o → value_of places limit o ≡ Ok v → Exact places limit w v
    split None e g = let z : ◌≡◌ {A = ℕ} 0 1 = cc in absurd (omega arith)
    split (Some n) e g =
        let k = settled-value limit n.negative (over places n) (under n) (under-pos n) v g in
        record { numeral = n; spelt = spells-of w n e; equal = k.0; within = k.1 }

pub of-exact : (places limit : ℕ) (w : List ℕ) (v : ℤ) → Exact places limit w v → number_of places limit w ≡ Ok v
unfolding number_of
of-exact places limit w v h =
    rw (of-spells w h.numeral h.spelt) (value-settled limit h.numeral.negative (over places h.numeral) (under h.numeral) (under-pos h.numeral) v h.equal h.within)
