-- A row's line, sought from the cursor on: how the search begins, passes a line, finds the row and ends.
use Prim.Native.Nat.{ℕ, suc, ◌-◌}
use mathlib.Core.Path.{◌≡◌, sym, ap, ap₂, ◌∙◌}
use mathlib.Core.Bool.{true, false}
use mathlib.Core.List.{List}
use borrow.Author.Tests.{eq-eqb, ne_eqb}
use lib.ListN.{take, drop}
use Rattle.rules.specs.Reading.Contents.{form_of}
use Rattle.rules.specs.Demands.{is_data}
use Rattle.text.specs.LinesFrom.{lines_from}
use Rattle.text.specs.declared.cursor.Cursor.{Cursor}
use Rattle.text.proofs.Standing.{Standing, Beginning, LineFound, EndFound, passed, step-first}
use Rattle.explain.specs.RowLines.{data_line_from, line_of_row}

-- the row's line is that of the data line past so many others, from the cursor on
pub record Sought (file : List ℕ) (row : ℕ) (c : Cursor) (others : ℕ) : Type 0 where
  pub standing : Standing file c
  pub to-come : line_of_row file row ≡ data_line_from (suc (passed file c)) others (lines_from file c.at)

pub begins : (file : List ℕ) (row : ℕ) (c : Cursor) → c.at ≡ 0 → c.line ≡ 1 → Sought file row c row
begins file row c p n =
    let b : Beginning file c = step-first file c p n in
    record { standing = b.standing; to-come = ap₂ (λ k ls. data_line_from (suc k) row ls) (sym b.none_passed) (sym b.lines) }

module _ {file : List ℕ} {row : ℕ} {c : Cursor} {others : ℕ} (s : Sought file row c others) where
  pub ends : EndFound file c → line_of_row file row ≡ 0
  unfolding data_line_from
  ends e = s.to-come ∙ ap (data_line_from (suc (passed file c)) others) e.lines

  module _ {from to line : ℕ} {next : Cursor} (found : LineFound file c from to line next) where
    abbrev text : List ℕ
    text = take (to - from) (drop from file)

    -- what is sought from this line on
    abbrev later : ℕ → ℕ
    later k = data_line_from (suc (passed file next)) k (lines_from file next.at)

    onward : (k : ℕ) → line_of_row file row ≡ data_line_from (suc (suc (passed file c))) k (lines_from file next.at) → Sought file row next k
    onward k e = record {
      standing = found.next-standing;
      to-come = e ∙ ap (λ p. data_line_from (suc p) k (lines_from file next.at)) (sym found.next-passed);
    }

    -- it is this line
    pub here : is_data (form_of text) ≡ true → others ≡ 0 → line_of_row file row ≡ line
    unfolding data_line_from
    here d z = s.to-come ∙ ap (data_line_from (suc (passed file c)) others) found.lines ∙ rw (d, eq-eqb others 0 z) (sym found.number)

    -- this is one of the others
    pub one_less : is_data (form_of text) ≡ true → (others ≡ 0 → ⊥) → Sought file row next (others - 1)
    unfolding data_line_from
    one_less d z =
        onward (others - 1) (s.to-come ∙ ap (data_line_from (suc (passed file c)) others) found.lines ∙ rw (d, ne_eqb others 0 z))

    -- this is none
    pub passes : is_data (form_of text) ≡ false → Sought file row next others
    unfolding data_line_from
    passes d = onward others (s.to-come ∙ ap (data_line_from (suc (passed file c)) others) found.lines ∙ rw d)
