-- The cursor's invariant: it stands in the file or one place past it, and its line is 1 plus the newlines before it. A step keeps it and says what the reader's loop needs.
use Prim.Native.Nat.{ℕ, suc, ◌+◌, ◌-◌, ◌≤◌}
use mathlib.Core.Path.{◌≡◌, refl, ap, ◌∙◌}
use mathlib.Core.Bool.{Bool, true, false, cond}
use mathlib.Core.List.{List, [], ◌∷◌}
use native.Mathlib.Omega.{arith}
use borrow.Author.Tests.{le-ltb, lt-ltb, ltb-false, ltb-true}
use lib.Dec.{ltb}
use lib.ListN.{length, drop, take}
use lib.Seq.{take_all}
use Rattle.rules.specs.Reading.Lines.{lines_of, newlines}
use Rattle.scan.specs.Kinds.{in_line}
use Rattle.text.specs.LinesFrom.{end_of, lines_from, step_at}
use Rattle.text.specs.declared.cursor.Cursor.{Cursor}
use Rattle.std.specs.Prelude.{None, Some}
use Rattle.text.specs.declared.cursor.Line.{Line}
use Rattle.scan.proofs.Runs.{end-within}
use Rattle.text.proofs.Newlines.{newlines-before, newlines-next}
use Rattle.text.proofs.LinesFrom.{lines-all, lines_next, lines-past, next_start}

-- in the file or one place past it, on the line that its place gives; the number is small enough to be added to
pub record Standing (s : List ℕ) (c : Cursor) : Type 0 where
  pub inside : c.at ≤ length s + 1
  pub small : c.line ≤ c.at + 1
  pub counted : c.line ≡ 1 + newlines (take c.at s)

-- how many lines stand before the cursor: past the file all of them
abbrev pub passed : List ℕ → Cursor → ℕ
passed s c = cond (ltb (length s) c.at) c.line (c.line - 1)

-- what the first cursor is
pub record Beginning (s : List ℕ) (c : Cursor) : Type 0 where
  pub lines : lines_from s c.at ≡ lines_of s
  pub none_passed : passed s c ≡ 0
  pub standing : Standing s c

-- what finding a line says, of a cursor and the next one
pub record LineFound (s : List ℕ) (c : Cursor) (start end line : ℕ) (next : Cursor) : Type 0 where
  pub here : start ≡ c.at
  pub order : start ≤ end
  pub inside : end ≤ length s
  pub lines : lines_from s c.at ≡ take (end - start) (drop start s) ∷ lines_from s next.at
  pub place : next.at ≡ start + length (take (end - start) (drop start s)) + 1
  pub number : line ≡ suc (passed s c)
  pub next-passed : passed s next ≡ suc (passed s c)
  pub next-standing : Standing s next

-- what finding the end says of a cursor
pub record EndFound (s : List ℕ) (c : Cursor) : Type 0 where
  pub lines : lines_from s c.at ≡ []
  pub all-passed : c.line ≡ passed s c
  pub number : c.line ≡ 1 + newlines s

-- ---- each step finds it

-- the cursor past a line
abbrev past : List ℕ → Cursor → Cursor
past s c = record { at = end_of s c.at + 1; line = cond (ltb (end_of s c.at) (length s)) (c.line + 1) c.line }

-- the line at the cursor
abbrev line : List ℕ → Cursor → Line
line s c = record { start = c.at; end = end_of s c.at; line = c.line; next = past s c }

pub step-first : (s : List ℕ) (c : Cursor) → c.at ≡ 0 → c.line ≡ 1 → Beginning s c
unfolding newlines
step-first s c p n = record {
  lines = ap (lines_from s) p ∙ lines-all s;
  none_passed = rw (p, n, le-ltb (length s) 0 (omega arith));
  standing = record { inside = omega arith; small = omega arith; counted = n ∙ rw p };
}

one_more : (t : Bool) (n : ℕ) → cond t (n + 1) n ≡ n + cond t 1 0
one_more true n = refl
one_more false n = omega arith

module _ (s : List ℕ) (c : Cursor) (standing : Standing s c) where
  standing-past : c.at ≤ length s → Standing s (past s c)
  standing-past h =
      let e : (past s c).line ≡ 1 + newlines (take (past s c).at s) =
      one_more (ltb (end_of s c.at) (length s)) c.line ∙ omega (arith, newlines-next s c.at h) in
      record { inside = omega (arith, end-within in_line s c.at h); small = omega (arith, newlines-before s (past s c).at); counted = e }

  passed-inside : c.at ≤ length s → c.line ≡ suc (passed s c)
  passed-inside h = rw (le-ltb (length s) c.at h) (omega arith)

  passed-past : c.at ≤ length s → passed s (past s c) ≡ c.line
  passed-past h = split (ltb (end_of s c.at) (length s)) refl
    where
      split : (t : Bool) → ltb (end_of s c.at) (length s) ≡ t → cond (ltb (length s) (end_of s c.at + 1)) (cond t (c.line + 1) c.line) (cond t (c.line + 1) c.line - 1) ≡ c.line
      split true e = rw (le-ltb (length s) (end_of s c.at + 1) (omega (arith, ltb-true))) (omega arith)
      split false e = rw (lt-ltb (length s) (end_of s c.at + 1) (omega (arith, ltb-false)))

  line-there : c.at ≤ length s → LineFound s c c.at (end_of s c.at) c.line (past s c)
  line-there h = record {
    here = refl;
    order = omega arith;
    inside = end-within in_line s c.at h;
    lines = lines_next s c.at h;
    place = next_start s c.at h;
    number = passed-inside h;
    next-passed = passed-past h ∙ passed-inside h;
    next-standing = standing-past h;
  }

  pub step_line : (l : Line) → step_at s c.at c.line ≡ Some l → LineFound s c l.start l.end l.line l.next
  step_line l = split (ltb (length s) c.at) refl
    where
      split : (t : Bool) → ltb (length s) c.at ≡ t → cond t None (Some (line s c)) ≡ Some l → LineFound s c l.start l.end l.line l.next
      split true e g = let z : ◌≡◌ {A = ℕ} 0 1 = cc in absurd (omega arith)
      split false e g =
          let same : line s c ≡ l = cc in
          rw (← same) (line-there (ltb-false _ _ e))

  pub step_end : step_at s c.at c.line ≡ None → EndFound s c
  step_end = split (ltb (length s) c.at) refl
    where
      split : (t : Bool) → ltb (length s) c.at ≡ t → cond t None (Some (line s c)) ≡ None → EndFound s c
      split true e g = record {
        lines = lines-past s c.at (omega (arith, ltb-true));
        all-passed = rw e;
        number = standing.counted ∙ ap (λ (l : List ℕ). 1 + newlines l) (take_all c.at s (omega (arith, ltb-true)));
      }
      split false e g = let z : ◌≡◌ {A = ℕ} 0 1 = cc in absurd (omega arith)
