-- Newlines before a place: a line and what ends it add one, but for the last line.
use Prim.Native.Nat.{ℕ, suc, ◌+◌, ◌≤◌}
use mathlib.Core.Path.{◌≡◌, refl, ap}
use mathlib.Core.Bool.{Bool, true, false, cond}
use mathlib.Core.List.{List, [], ◌∷◌, ◌++◌}
use native.Mathlib.Nat.{min-le_left}
use native.Mathlib.Omega.{arith}
use borrow.Author.Tests.{le-ltb, lt-ltb, ltb-false, ltb-true}
use lib.Dec.{eqb, leb-suc-suc, ltb}
use lib.ListN.{length, drop, take, length-drop, length-take}
use lib.Seq.{take-add}
use Rattle.rules.specs.Reading.Lines.{newlines, run}
use Rattle.scan.specs.Kinds.{in_line}
use Rattle.text.specs.LinesFrom.{end_of}

newlines-append : (a b : List ℕ) → newlines (a ++ b) ≡ newlines a + newlines b
unfolding newlines
newlines-append [] b = omega arith
newlines-append (x ∷ a) b = split (eqb x 10) (newlines-append a b)
  where
    split : (t : Bool) → newlines (a ++ b) ≡ newlines a + newlines b
        → cond t (1 + newlines (a ++ b)) (newlines (a ++ b)) ≡ cond t (1 + newlines a) (newlines a) + newlines b
    split true ih = omega arith
    split false ih = ih

newlines-le : (t : List ℕ) → newlines t ≤ length t
unfolding newlines
newlines-le [] = omega arith
newlines-le (b ∷ rest) = split (eqb b 10) (newlines-le rest)
  where
    split : (t : Bool) → newlines rest ≤ length rest → cond t (1 + newlines rest) (newlines rest) ≤ suc (length rest)
    split true h = omega arith
    split false h = omega arith

pub newlines-before : (s : List ℕ) (p : ℕ) → newlines (take p s) ≤ p
newlines-before s p = omega (arith, newlines-le (take p s), length-take p s, min-le_left p (length s))

-- a line and what ends it have one newline, or none at the end of the file
newlines-line : (t : List ℕ) → newlines (take (suc (length (run in_line t))) t) ≡ cond (ltb (length (run in_line t)) (length t)) 1 0
unfolding newlines run
newlines-line [] = refl
newlines-line (b ∷ rest) = split (eqb b 10) refl (newlines-line rest)
  where
    split : (e : Bool) → eqb b 10 ≡ e → newlines (take (suc (length (run in_line rest))) rest) ≡ cond (ltb (length (run in_line rest)) (length rest)) 1 0
        → newlines (take (suc (length (run in_line (b ∷ rest)))) (b ∷ rest)) ≡ cond (ltb (length (run in_line (b ∷ rest))) (length (b ∷ rest))) 1 0
    split true e ih = simp (e, lt-ltb 0 (suc (length rest)) (omega arith))
    split false e ih = simp (e, ih, leb-suc-suc)

pub newlines-next : (s : List ℕ) (p : ℕ) → p ≤ length s → newlines (take (end_of s p + 1) s) ≡ newlines (take p s) + cond (ltb (end_of s p) (length s)) 1 0
newlines-next s p h =
    let k : ℕ = length (run in_line (drop p s)) in
    let f : p + k + 1 ≡ p + suc k = omega arith in
    rw (f, take-add p (suc k) s, newlines-append, newlines-line (drop p s)) (ap (λ (t : Bool). newlines (take p s) + cond t 1 0) (split (ltb (p + k) (length s)) refl))
  where
    split : (t : Bool) → ltb (p + length (run in_line (drop p s))) (length s) ≡ t → ltb (length (run in_line (drop p s))) (length (drop p s)) ≡ ltb (end_of s p) (length s)
    split true e = rw (e, lt-ltb (length (run in_line (drop p s))) (length (drop p s)) (omega (arith, length-drop p s, ltb-true)))
    split false e = rw (e, le-ltb (length (run in_line (drop p s))) (length (drop p s)) (omega (arith, length-drop p s, ltb-false)))
