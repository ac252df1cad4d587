-- The lines from a place on are the line that starts there and the lines past its end.
use Prim.Native.Nat.{ℕ, suc, ◌+◌, ◌-◌, ◌≤◌, ◌<◌}
use mathlib.Core.Path.{◌≡◌, refl, ◌∙◌}
use mathlib.Core.Bool.{Bool, true, false}
use mathlib.Core.List.{List, [], ◌∷◌}
use native.Mathlib.Omega.{arith}
use borrow.Author.Tests.{le-ltb, lt-ltb, ltb-false, ltb-true}
use lib.Dec.{eqb, leb-suc-suc, ltb}
use lib.ListN.{length, drop, take, length-drop}
use lib.Seq.{drop-drop, length-take-le}
use Rattle.rules.specs.Reading.Lines.{lines_of, on_first, run}
use Rattle.scan.specs.Kinds.{in_line}
use Rattle.text.specs.LinesFrom.{end_of, lines_from}
use Rattle.scan.proofs.Runs.{end-within, take-to-end}

-- the bytes of the line that starts at place p
abbrev pub line_from : List ℕ → ℕ → List ℕ
line_from s p = take (end_of s p - p) (drop p s)

pub lines-all : (s : List ℕ) → lines_from s 0 ≡ lines_of s
lines-all s = rw (le-ltb (length s) 0 (omega arith))

pub lines-inside : (s : List ℕ) (p : ℕ) → p ≤ length s → lines_from s p ≡ lines_of (drop p s)
lines-inside s p h = rw (le-ltb (length s) p h)

pub lines-past : (s : List ℕ) (p : ℕ) → length s < p → lines_from s p ≡ []
lines-past s p h = rw (lt-ltb (length s) p h)

-- a file's first line, and its lines past that
first-line : (t : List ℕ) → lines_of t ≡ run in_line t ∷ lines_from t (suc (length (run in_line t)))
unfolding lines_of run on_first
first-line [] = refl
first-line (b ∷ rest) = split (eqb b 10) refl (first-line rest)
  where
    split : (e : Bool) → eqb b 10 ≡ e → lines_of rest ≡ run in_line rest ∷ lines_from rest (suc (length (run in_line rest)))
        → lines_of (b ∷ rest) ≡ run in_line (b ∷ rest) ∷ lines_from (b ∷ rest) (suc (length (run in_line (b ∷ rest))))
    split true e ih = simp (e, le-ltb (suc (length rest)) 1 (omega arith))
    split false e ih = simp (e, ih, on_first, leb-suc-suc)

-- lines of a part are lines of the whole
lines-of-part : (s : List ℕ) (p k : ℕ) → p ≤ length s → lines_from (drop p s) (suc k) ≡ lines_from s (p + suc k)
lines-of-part s p k h = split (ltb (length s) (p + suc k)) refl
  where
    split : (t : Bool) → ltb (length s) (p + suc k) ≡ t → lines_from (drop p s) (suc k) ≡ lines_from s (p + suc k)
    split true e = rw (e, lt-ltb (length (drop p s)) (suc k) (omega (arith, length-drop p s, ltb-true)))
    split false e = rw (e, le-ltb (length (drop p s)) (suc k) (omega (arith, length-drop p s, ltb-false)), drop-drop)

pub lines_cut : (s : List ℕ) (p : ℕ) → p ≤ length s → lines_of (drop p s) ≡ line_from s p ∷ lines_from s (end_of s p + 1)
lines_cut s p h =
    let k : ℕ = length (run in_line (drop p s)) in
    let f : end_of s p + 1 ≡ p + suc k = omega arith in
    rw (f, take-to-end in_line s p, ← lines-of-part s p k h) (first-line (drop p s))

pub lines_next : (s : List ℕ) (p : ℕ) → p ≤ length s → lines_from s p ≡ line_from s p ∷ lines_from s (end_of s p + 1)
lines_next s p h = lines-inside s p h ∙ lines_cut s p h

-- the next line starts where the line's bytes and one byte more end
pub next_start : (s : List ℕ) (p : ℕ) → p ≤ length s → end_of s p + 1 ≡ p + length (line_from s p) + 1
next_start s p h = omega (arith, length-take-le (end_of s p - p) (drop p s) (omega (arith, length-drop p s, end-within in_line s p h)))
