-- The words that are written: keywords, N, bounds and samples. Each is short, and each of its bytes shows.
use Prim.Native.Nat.{ℕ, ◌≤◌}
use mathlib.Core.Path.{◌≡◌, refl, sym, subst, ◌∙◌}
use mathlib.Core.Bool.{Bool, true, false, ◌||◌}
use mathlib.Core.List.{List, ◌∷◌, ◌++◌}
use native.Mathlib.Omega.{arith}
use borrow.Author.Tests.{leb-true, le-leb, eqb-true, ne_eqb}
use lib.Dec.{eqb, leb}
use lib.IntN.{ℤ, nat_abs}
use lib.ListN.{length}
use Rattle.rules.specs.Units.{bound_limit, bound_places, greatest_n, sample_limit, sample_places}
use Rattle.rules.specs.Decimals.{decimal, decimals_of}
use Rattle.rules.specs.Reading.Lines.{bytes, digit, e_byte, every, in_word, number_byte, starts}
use Rattle.rules.specs.Reading.Items.{named}
use Rattle.rules.specs.Reading.Numerals.{Exponent, Mantissa, Numeral, Power, Sign, Spells, absent, minus, plain, plus, pointed, unwritten, written}
use Rattle.rules.specs.declared.Keyword.{Keyword}
use Rattle.rules.specs.declared.Keyword.TheVariants.{ATitle, ALower, AnUpper, ASize}
use Rattle.rules.specs.declared.Kind.TheVariants.{OneD, ThreeD}
use Rattle.rules.proofs.Tests.{no_true, and_both, both-and}
use Rattle.rules.proofs.Decimals.{decimal-within, decimals-within}
use Rattle.rules.proofs.Reading.Numbers.{digits-parts}
use Rattle.rules.proofs.Reading.OneLine.{spells-starts}
use Rattle.rules.proofs.Reading.Runs.{append-every, every_append}
use Rattle.signature.proofs.Decimals.{decimal-digits, decimals-spell, numeral}
use Rattle.signature.proofs.Writing.Spaced.{Word, every-also, shows, shows-in-word, starts-also, word_limit}

-- ---- keywords

-- capitals, digits and underscores
pub named-word : (k : Keyword) → Word (named k)
unfolding bytes every starts
named-word ATitle = record { some = refl; each = refl; short = omega arith }
named-word ALower = record { some = refl; each = refl; short = omega arith }
named-word AnUpper = record { some = refl; each = refl; short = omega arith }
named-word (ASize OneD) = record { some = refl; each = refl; short = omega arith }
named-word (ASize ThreeD) = record { some = refl; each = refl; short = omega arith }

-- ---- each byte of a number shows

digit-shows : (b : ℕ) → digit b ≡ true → shows b ≡ true
digit-shows b h =
    let e = and_both (leb 48 b) (leb b 57) h in
    both-and (leb 33 b) (leb b 126) (le-leb 33 b (omega (arith, leb-true 48 b e.0))) (le-leb b 126 (omega (arith, leb-true b 57 e.1)))

mark-shows : (b : ℕ) → e_byte b ≡ true → shows b ≡ true
mark-shows b h = split (eqb b 101) refl h
  where
    split : (t : Bool) → eqb b 101 ≡ t → t || eqb b 69 ≡ true → shows b ≡ true
    split true e g = rw (eqb-true b 101 e)
    split false e g = rw (eqb-true b 69 g)

digits-show : (l : List ℕ) → every digit l ≡ true → every shows l ≡ true
digits-show l h = every-also digit shows digit-shows l h

sign-shows : {negative : Bool} {s : List ℕ} → Sign negative s → every shows s ≡ true
unfolding every
sign-shows (unwritten e f) = rw e
sign-shows (plus e f) = rw e
sign-shows (minus e f) = rw e

mantissa-shows : (m whole fraction : List ℕ) → Mantissa m whole fraction → every shows m ≡ true
unfolding every
mantissa-shows m whole fraction (plain e f d) = rw e (digits-show whole (digits-parts whole d).1)
mantissa-shows m whole fraction (pointed e d) =
    let (w, f) = append-every digit whole fraction (digits-parts (whole ++ fraction) d).1 in
    rw e (every_append shows whole (46 ∷ fraction) (digits-show whole w) (digits-show fraction f))

power-shows : (e : List ℕ) (x : Exponent) → Power e x → every shows e ≡ true
unfolding every
power-shows e x (absent p q) = rw p
power-shows e x (written mark s p m sign d) =
    rw p (both-and (shows mark) _ (mark-shows mark m) (every_append shows s x.power (sign-shows sign) (digits-show x.power (digits-parts x.power d).1)))

-- a sign, digits, a point, and perhaps an exponent
pub spelt-shows : (w : List ℕ) (n : Numeral) → Spells w n → every shows w ≡ true
spelt-shows w n h =
    let m = mantissa-shows h.mantissa n.whole n.fraction h.mantissa_so in
    rw h.word (every_append shows h.sign _ (sign-shows h.sign_so) (every_append shows h.mantissa h.power m (power-shows h.power n.exponent h.power_so)))

number-in-word : (b : ℕ) → number_byte b ≡ true → in_word b ≡ true
number-in-word b h = rw (ne_eqb b 32 (other 32 refl), ne_eqb b 9 (other 9 refl))
  where
    other : (c : ℕ) → number_byte c ≡ false → b ≡ c → ⊥
    other c n e = no_true (sym (subst (λ (x : ℕ). number_byte x ≡ true) e h) ∙ n)

-- ---- numbers

-- N
pub decimal-word : (n : ℕ) → n ≤ greatest_n OneD → Word (decimal n)
decimal-word n h =
    let d = digits-parts (decimal n) (decimal-digits n) in
    record {
      some = starts-also digit in_word (λ b e. shows-in-word b (digit-shows b e)) (decimal n) d.0;
      each = digits-show (decimal n) d.1;
      short = omega (arith, decimal-within 4 n (omega arith));
    }

plain_word : (places : ℕ) (z : ℤ) → length (decimals_of places z) ≤ word_limit → Word (decimals_of places z)
plain_word places z h =
    let s = decimals-spell places z in
    record {
      some = starts-also number_byte in_word number-in-word (decimals_of places z) (spells-starts _ (numeral places z) s);
      each = spelt-shows (decimals_of places z) (numeral places z) s;
      short = h;
    }

-- at most 10 whole units and three places
pub bound-word : (z : ℤ) → nat_abs z ≤ bound_limit → Word (decimals_of bound_places z)
bound-word z h = plain_word bound_places z (omega (arith, decimals-within 1 bound_places z (omega arith)))

-- at most 1000 whole units and seven places
pub sample-word : (z : ℤ) → nat_abs z ≤ sample_limit → Word (decimals_of sample_places z)
sample-word z h = plain_word sample_places z (omega (arith, decimals-within 3 sample_places z (omega arith)))
