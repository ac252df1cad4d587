-- The data lines of a file counted, and its first size sought, from the cursor on.
use Prim.Native.Nat.{ℕ, ◌+◌, ◌-◌, ◌≤◌}
use mathlib.Core.Path.{◌≡◌, refl, sym, ap, ◌∙◌}
use mathlib.Core.Bool.{Bool, true, false, cond}
use mathlib.Core.List.{List, [], ◌∷◌}
use native.Mathlib.Omega.{arith}
use lib.ListN.{length, take, drop}
use Rattle.rules.specs.Reading.Lines.{lines_of}
use Rattle.rules.specs.Reading.Contents.{form_of}
use Rattle.rules.specs.Demands.{is_data, data_lines}
use Rattle.rules.specs.declared.Size.{Size}
use Rattle.text.specs.LinesFrom.{lines_from}
use Rattle.text.specs.declared.cursor.Cursor.{Cursor}
use Rattle.text.proofs.Standing.{Standing, Beginning, LineFound, EndFound, step-first}
use Rattle.pointing.specs.Counts.{rows_in, size_on, or_later, first_size}
use Rattle.std.specs.Prelude.{None, Some}

-- the rows are those that were counted and those from the cursor on; no more were counted than bytes passed
pub record Counted (file : List ℕ) (c : Cursor) (rows : ℕ) : Type 0 where
  pub standing : Standing file c
  pub few : rows ≤ c.at
  pub to-come : rows_in file ≡ rows + length (data_lines (lines_from file c.at))

-- the file's first size is the first from the cursor on
pub record Sizing (file : List ℕ) (c : Cursor) : Type 0 where
  pub standing : Standing file c
  pub to-come : first_size (lines_of file) ≡ first_size (lines_from file c.at)

module _ (file : List ℕ) (c : Cursor) (p : c.at ≡ 0) (n : c.line ≡ 1) where
  started : Beginning file c
  started = step-first file c p n

  pub counted_none : Counted file c 0
  counted_none = record { standing = started.standing; few = omega arith; to-come = ap (λ ls. length (data_lines ls)) (sym started.lines) ∙ omega arith }

  pub sized-none : Sizing file c
  sized-none = record { standing = started.standing; to-come = ap first_size (sym started.lines) }

no_data : length (data_lines []) ≡ 0
unfolding data_lines
no_data = refl

one-data : (l : List ℕ) (ls : List (List ℕ)) (b : Bool) → is_data (form_of l) ≡ b → length (data_lines (l ∷ ls)) ≡ cond b (length (data_lines ls) + 1) (length (data_lines ls))
unfolding data_lines
one-data l ls true e = rw e (omega arith)
one-data l ls false e = rw e refl

no-size : first_size [] ≡ None
unfolding first_size
no-size = refl

one_size : (l : List ℕ) (ls : List (List ℕ)) → first_size (l ∷ ls) ≡ or_later (size_on l) (first_size ls)
unfolding first_size
one_size l ls = refl

module _ {file : List ℕ} {c : Cursor} where
  pub counted-all : {rows : ℕ} → Counted file c rows → EndFound file c → rows ≡ rows_in file
  counted-all {rows} k e =
      let over = ap (λ ls. length (data_lines ls)) e.lines ∙ no_data in
      omega (arith, k.to-come, over)

  pub sized-end : Sizing file c → EndFound file c → first_size (lines_of file) ≡ None
  sized-end s e = s.to-come ∙ ap first_size e.lines ∙ no-size

  module _ {from to line : ℕ} {next : Cursor} (found : LineFound file c from to line next) where
    abbrev text : List ℕ
    text = take (to - from) (drop from file)

    further : {rows : ℕ} (b : Bool) → Counted file c rows → is_data (form_of text) ≡ b → rows_in file ≡ rows + cond b (length (data_lines (lines_from file next.at)) + 1) (length (data_lines (lines_from file next.at)))
    further {rows} b k e =
        k.to-come
        ∙ ap (λ (m : ℕ). rows + m) (ap (λ ls. length (data_lines ls)) found.lines ∙ one-data text (lines_from file next.at) b e)

    pub one_more : {rows : ℕ} → Counted file c rows → is_data (form_of text) ≡ true → Counted file next (rows + 1)
    one_more {rows} k e = record {
      standing = found.next-standing;
      few = omega (arith, k.few, found.place, found.here);
      to-come = let f = further true k e in omega (arith, f);
    }

    pub no_more : {rows : ℕ} → Counted file c rows → is_data (form_of text) ≡ false → Counted file next rows
    no_more {rows} k e = record { standing = found.next-standing; few = omega (arith, k.few, found.place, found.here); to-come = further false k e }

    pub size-here : Sizing file c → (s : Size) → size_on text ≡ Some s → first_size (lines_of file) ≡ Some s
    size-here z s e = z.to-come ∙ ap first_size found.lines ∙ one_size text (lines_from file next.at) ∙ rw e refl

    pub size-later : Sizing file c → size_on text ≡ None → Sizing file next
    size-later z e = record {
      standing = found.next-standing;
      to-come = z.to-come ∙ ap first_size found.lines ∙ one_size text (lines_from file next.at) ∙ rw e refl;
    }
