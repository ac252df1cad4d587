-- The grammar by places: what stands between the places that the code finds is what the definitions read off the word.
use Prim.Native.Nat.{ℕ, ◌+◌}
use mathlib.Core.Path.{◌≡◌, refl, sym}
use mathlib.Core.Bool.{Bool, true, false, cond, ◌&&◌, ◌||◌}
use mathlib.Core.List.{List, [], ◌∷◌, ◌++◌}
use native.Mathlib.Omega.{arith}
use lib.Dec.{ltb}
use lib.ListN.{length, get_or, drop}
use lib.Seq.{drop-drop}
use mir.Val.{bool_byte}
use Rattle.rules.specs.Reading.Lines.{after, digit, e_byte, every, minus_byte, point_byte, run, starts}
use Rattle.rules.specs.Reading.Numerals.{Mantissa, Numeral, digits, plain, pointed}
use Rattle.rules.specs.Reading.Numbers.{assemble, exponent_of, numeral_with, numeral_of, unsigned}
use Rattle.rules.proofs.Reading.Numbers.{assemble-first, digits-parts, spells-of}
use Rattle.rules.proofs.Reading.Runs.{after-stops, append-every, run-starts}
use Rattle.scan.specs.RunEnds.{run_end}
use Rattle.scan.proofs.Tests.{or-false}
use Rattle.scan.proofs.Runs.{drop-to-end, end-further, take-to-end}
use Rattle.numbers.specs.Parts.{part}
use Rattle.std.specs.Prelude.{None, Some}

-- ---- the exponent

pub exponent-absent : (e : List ℕ) → length e ≡ 0 → Some (record { down = false; power = e }) ≡ exponent_of e
unfolding exponent_of
exponent-absent [] h = refl
exponent-absent (b ∷ rest) h = absurd (omega arith)

pub exponent-there : (e : List ℕ) → (length e ≡ 0 → ⊥)
    → exponent_of e ≡ cond (e_byte (get_or e 0 0) && digits (unsigned (drop 1 e))) (Some (record { down = starts minus_byte (drop 1 e); power = unsigned (drop 1 e) })) None
unfolding exponent_of
exponent-there [] h = absurd (h refl)
exponent-there (b ∷ rest) h = refl

-- e or E or not, a minus or not, n bytes of a sign, and digits alone or not
pub exponent-by : (e : List ℕ) (marked down whole : Bool) (n : ℕ) → (length e ≡ 0 → ⊥) → marked ≡ e_byte (get_or e 0 0) → down ≡ starts minus_byte (drop 1 e)
    → drop n (drop 1 e) ≡ unsigned (drop 1 e) → whole ≡ digits (drop n (drop 1 e)) → cond (marked && whole) (Some (record { down = down; power = drop (1 + n) e })) None ≡ exponent_of e
exponent-by e marked down whole n h m d u w = rw (exponent-there e h, m, d, w, ← drop-drop n 1 e, u)

-- ---- the mantissa

-- the longest run of digits from place a ends at e
record DigitsTo (w : List ℕ) (a e : ℕ) : Type 0 where
  pub stand : part w a e ≡ run digit (drop a w)
  pub then : drop e w ≡ after digit (drop a w)
  pub there : ltb a e ≡ starts digit (drop a w)

digits-to : (w : List ℕ) (a e : ℕ) → e ≡ run_end digit w a → DigitsTo w a e
digits-to w a e h = record { stand = rw h (take-to-end digit w a); then = rw h (drop-to-end digit w a); there = rw h (end-further digit w a) }

-- after the whole digits: a point or none, digits, and an exponent
fraction-by : (negative : Bool) (whole l : List ℕ) → starts digit l ≡ false
    → let r = drop (bool_byte (starts point_byte l)) l in
    numeral_with negative whole l ≡ cond (starts digit whole || starts digit r) (assemble true negative whole (run digit r) (exponent_of (after digit r))) None
unfolding numeral_with starts run after
fraction-by negative whole [] h = rw (← or-false (starts digit whole)) (assemble-first (starts digit whole) negative whole [] (exponent_of []))
fraction-by negative whole (b ∷ rest) h = by (point_byte b)
  where
    by : (t : Bool)
        → let r = drop (bool_byte t) (b ∷ rest) in
        cond t (assemble (starts digit whole || starts digit rest) negative whole (run digit rest) (exponent_of (after digit rest))) (assemble (starts digit whole) negative whole [] (exponent_of (b ∷ rest)))
        ≡ cond (starts digit whole || starts digit r) (assemble true negative whole (run digit r) (exponent_of (after digit r))) None
    by true = assemble-first (starts digit whole || starts digit rest) negative whole (run digit rest) (exponent_of (after digit rest))
    by false = rw (h, ← or-false (starts digit whole)) (assemble-first (starts digit whole) negative whole [] (exponent_of (b ∷ rest)))

-- an optional sign up to a, whole digits up to b, a point or none, and digits up to d
pub numeral-by : (w : List ℕ) (negative : Bool) (a b d : ℕ) (p : Bool) → negative ≡ starts minus_byte w → drop a w ≡ unsigned w → b ≡ run_end digit w a → p ≡ starts point_byte (drop b w) → d ≡ run_end digit w (b + bool_byte p)
    → cond (ltb a b || ltb (b + bool_byte p) d) (assemble true negative (part w a b) (part w (b + bool_byte p) d) (exponent_of (drop d w))) None ≡ numeral_of w
unfolding numeral_of
numeral-by w negative a b d p sign skip whole-end e end =
    let f = digits-to w a b whole-end in
    let g = digits-to w (b + bool_byte p) d end in
    let q : drop (bool_byte p) (drop b w) ≡ drop (b + bool_byte p) w = drop-drop (bool_byte p) b w in
    let stops : starts digit (drop b w) ≡ false = rw f.then (after-stops digit (drop a w)) in
    rw (sign, f.there, f.stand, g.there, g.stand, g.then, ← skip, ← f.then, ← q, e, ← run-starts digit (drop a w))
    (sym (fraction-by (starts minus_byte w) (run digit (drop a w)) (drop b w) stops))

-- ---- a numeral's digits are digits

pub numeral-digits : (w : List ℕ) (n : Numeral) → numeral_of w ≡ Some n → (every digit n.whole ≡ true) × (every digit n.fraction ≡ true)
unfolding every
numeral-digits w n h = by (spells-of w n h).mantissa_so
  where
    by : {l : List ℕ} → Mantissa l n.whole n.fraction → (every digit n.whole ≡ true) × (every digit n.fraction ≡ true)
    by (plain e f d) = ((digits-parts n.whole d).1, rw f)
    by (pointed e d) = append-every digit n.whole n.fraction (digits-parts (n.whole ++ n.fraction) d).1
