-- The loop of the first pass in the rules' terms: reading the file is reading the lines from the cursor on, in the state so far.
-- How that begins, goes on past a line, stops on one, and ends; and how it goes on past a run of plain rows.
use Prim.Native.Nat.{ℕ, suc, ◌+◌, ◌-◌, ◌≤◌}
use mathlib.Core.Path.{◌≡◌, sym, ap, ◌∙◌}
use mathlib.Core.List.{List, [], ◌∷◌}
use native.Mathlib.Nat.{add-zero}
use native.Mathlib.Omega.{arith}
use lib.ListN.{length, drop, take}
use Rattle.rules.specs.Reading.Judge.{start, add, end_fault, go, judge, refuse, State}
use Rattle.rules.specs.Reading.{finish, onward, read_lines, read}
use Rattle.rules.specs.declared.Item.TheVariants.{OfRow}
use Rattle.rules.specs.declared.Refusal.{Refusal}
use Rattle.rules.specs.declared.Row.{Row}
use Rattle.rules.proofs.Reading.OneLine.{found}
use Rattle.rules.proofs.Reading.Walk.{let-pass}
use Rattle.text.specs.LinesFrom.{lines_from}
use Rattle.text.specs.declared.cursor.Cursor.{Cursor}
use Rattle.text.proofs.Standing.{Standing, passed, Beginning, LineFound, EndFound, step-first}
use Rattle.plain.specs.Shapes as plain
use Rattle.plain.specs.Shapes.{RowAt, RowsAt}
use Rattle.plain.specs.declared.rows.Run.{Run}
use Rattle.reading.specs.View.{counting, left, Fit}
use Rattle.reading.specs.Runs.{past}
use Rattle.reading.proofs.Fits.{fit-rows}
use Rattle.reading.proofs.PlainRows.{row-found, RowsLeft, rows_left, rows-welcome, row-placed}
use Rattle.rules.specs.Results.{Read, refused_on}

-- what the lines from the cursor on decide, in this state, is what the file decides
pub record Onward (file : List ℕ) (places : ℕ) (st : State) (c : Cursor) : Type 0 where
  pub standing : Standing file c
  pub fit : Fit st
  pub same : read file places ≡ read_lines places c.at (passed file c) st (lines_from file c.at)

pub begins : (file : List ℕ) (places : ℕ) (st : State) (c : Cursor) → st ≡ start → Fit st → c.at ≡ 0 → c.line ≡ 1 → Onward file places st c
unfolding read
begins file places st c v f p n =
    let b : Beginning file c = step-first file c p n in
    record { standing = b.standing; fit = f; same = sym (λ i. read_lines places (p i) (b.none_passed i) (v i) (b.lines i)) }

module _ {file : List ℕ} {places : ℕ} {st : State} {c : Cursor} (here : Onward file places st c) where
  module _ {from to line : ℕ} {next : Cursor} (f : LineFound file c from to line next) where
    abbrev text : List ℕ
    text = take (to - from) (drop from file)

    -- the rest after this line, which begins at place p
    abbrev rest : ℕ → State → Read
    rest p st' = read_lines places (p + length text + 1) (suc (passed file c)) st' (lines_from file next.at)

    turns : read file places ≡ onward (rest from) (suc (passed file c)) (judge places st from text)
    unfolding read_lines
    turns =
        here.same
        ∙ ap (read_lines places c.at (passed file c) st) f.lines
        ∙ sym (ap (λ (p : ℕ). onward (rest p) (suc (passed file c)) (judge places st p text)) f.here)

    pub goes-on : (after : State) → judge places st from text ≡ go after → Fit after → Onward file places after next
    goes-on after says k = record {
      standing = f.next-standing;
      fit = k;
      same = turns
          ∙ ap (onward (rest from) (suc (passed file c))) says
          ∙ sym (λ i. read_lines places (f.place i) (f.next-passed i) after (lines_from file next.at));
    }

    pub stops : (r : Refusal) → judge places st from text ≡ refuse r → refused_on r line ≡ read file places
    stops r says = ap (refused_on r) f.number ∙ sym (turns ∙ ap (onward (rest from) (suc (passed file c))) says)

  pub ends : EndFound file c → finish c.line st (end_fault places st) ≡ read file places
  unfolding read_lines
  ends e =
      ap (λ (n : ℕ). finish n st (end_fault places st)) e.all-passed
      ∙ sym (here.same ∙ ap (read_lines places c.at (passed file c) st) e.lines)

-- ---- past a run of plain rows: the state has so many rows more, the cursor is so many lines on

module _ {file : List ℕ} {places : ℕ} where
  row_on : {st : State} {c : Cursor} {end : ℕ} {r : Row} → Onward file places st c → RowAt file c.at end r → RowsLeft st 1
      → Onward file places (counting st 1) (past c (record { rows = 1; at = end + 1 }))
  unfolding add
  row_on {st} {c} {end} {r} here row room =
      let (there, fewer) = room (omega arith) in
      let placed = row-placed here.fit places there (omega arith) in
      goes-on here (row-found here.standing row) (counting st 1)
      (let-pass places st c.at _ (OfRow r) (found c.at _ (OfRow r) (row.line c.at)) placed)
      (fit-rows here.fit 1 (rows-welcome here.fit 1 room))

  rows_on : (rs : List Row) (to : ℕ) {st : State} {c : Cursor} → Onward file places st c → RowsAt file c.at rs to → RowsLeft st (length rs)
      → Onward file places (counting st (length rs)) (past c (record { rows = length rs; at = to }))
  rows_on [] to here e room = simp (add-zero, e) here
  rows_on (r ∷ rs) to {st} {c} here (end, row, more) room =
      let (there, fewer) = room (omega arith) in
      let first_on = row_on here row (λ _. (there, omega arith)) in
      let all-on = rows_on rs to first_on more (λ _. (omega arith, omega arith)) in
      let rows : st.rows + 1 + length rs ≡ st.rows + suc (length rs) = omega arith in
      let line : c.line + 1 + length rs ≡ c.line + suc (length rs) = omega arith in
      rw (rows, line) at all-on

  pub run_on : {st : State} {c : Cursor} {most : ℕ} {run : Run} → Onward file places st c → plain.Passed file c.at most run → most ≤ left st
      → Onward file places (counting st run.rows) (past c run)
  run_on {st} {c} {most} {run} here p few =
      let rs = p.rows in
      let on = rows_on rs run.at here p.there (rows_left st (length rs) (omega (arith, p.counted, p.few))) in
      rw (← p.counted) at on
