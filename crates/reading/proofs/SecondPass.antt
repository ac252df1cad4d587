-- The loop of the second pass in the rules' terms: the samples of the lines before the cursor stand in the table from its start on, later
-- places are as they were, and the lines from the cursor on keep the rules. How that begins, goes on past a line, and ends;
-- and how it goes on past a run of plain rows.
use Prim.Native.Nat.{ℕ, suc, ◌+◌, ◌-◌, ◌*◌, ◌≤◌}
use mathlib.Core.Path.{◌≡◌, refl, sym, ap, ap₂, subst, ◌∙◌}
use mathlib.Core.List.{List, [], ◌∷◌, ◌++◌, append_assoc, append-nil, map, flatten}
use native.Mathlib.Nat.{add-zero}
use native.Mathlib.Omega.{arith}
use lib.IntN.{ℤ}
use lib.ListN.{length, drop, take, length-append}
use Rattle.rules.specs.Memory.{spliced}
use Rattle.rules.specs.Descriptions.{rows}
use Rattle.rules.specs.Reading.Lines.{lines_of}
use Rattle.rules.specs.Reading.Contents.{content_of}
use Rattle.rules.specs.Reading.Grammar.{Keeps, Lines}
use Rattle.rules.specs.Reading.Items.{numbers_of}
use Rattle.rules.specs.Reading.{samples_in, samples_of}
use Rattle.rules.specs.declared.Item.{Item}
use Rattle.rules.specs.declared.Row.{Row}
use Rattle.rules.proofs.Memory.{splice-none, splice-length, splice-both}
use Rattle.rules.proofs.Reading.Acceptance.{accepted-keeps, keeps-length}
use Rattle.text.specs.LinesFrom.{lines_from}
use Rattle.text.specs.declared.cursor.Cursor.{Cursor}
use Rattle.text.proofs.Standing.{Standing, Beginning, LineFound, EndFound, step-first}
use Rattle.plain.specs.Shapes.{RowsAt, Put}
use Rattle.plain.specs.declared.rows.Run.{Run}
use Rattle.reading.specs.Tables.{LineKeeps, Accepts}
use Rattle.reading.specs.Runs.{past}
use Rattle.reading.proofs.LineSamples.{plain-samples}
use Rattle.reading.proofs.PlainRows.{row-found}

-- every line keeps the rules by itself
abbrev EachKeeps : List (List ℕ) → Type 0
EachKeeps [] = Unit {0}
EachKeeps (l ∷ ls) = LineKeeps l × EachKeeps ls

each_keeps : (p : ℕ) (ls : List (List ℕ)) (is : List Item) → Lines p ls is → EachKeeps ls
each_keeps p [] [] h = tt
each_keeps p [] (i ∷ is) h = absurd h
each_keeps p (l ∷ ls) [] h = absurd h
each_keeps p (l ∷ ls) (i ∷ is) h = (record { place = p; item = i; line = h.0 }, each_keeps (p + length l + 1) ls is h.1)

-- ---- an accepted file's lines keep the rules, and the table has room for their samples

module _ {file : List ℕ} {places : ℕ} (a : Accepts file places) where
  kept : Keeps file places a.description (samples_of (lines_of file))
  kept = accepted-keeps file places a.description a.accepted

  pub accepted-length : length (samples_of (lines_of file)) ≡ 3 * rows a.description
  accepted-length = keeps-length file places a.description _ kept

  accepted-room : length (samples_of (lines_of file)) ≤ places
  accepted-room = omega (arith, accepted-length, kept.room)

-- the table as it was, as it is, the cursor, and the place for the next sample
pub record Filled (file : List ℕ) (old table : List ℤ) (c : Cursor) (at : ℕ) : Type 0 where
  pub standing : Standing file c
  pub each : EachKeeps (lines_from file c.at)
  -- the samples of the lines before the cursor
  pub done : List ℤ
  pub place : at ≡ length done
  pub so_far : table ≡ spliced old 0 done
  pub all : samples_of (lines_of file) ≡ done ++ samples_of (lines_from file c.at)
  pub room : length (samples_of (lines_of file)) ≤ length old

pub begins : (file : List ℕ) (table : List ℤ) (c : Cursor) → Accepts file (length table) → c.at ≡ 0 → c.line ≡ 1 → Filled file table table c 0
begins file table c a p n =
    let b : Beginning file c = step-first file c p n in
    record {
      standing = b.standing;
      each = subst EachKeeps (sym b.lines) (each_keeps 0 (lines_of file) (kept a).items (kept a).lines);
      done = [];
      place = refl;
      so_far = sym (splice-none table 0);
      all = ap samples_of (sym b.lines);
      room = accepted-room a;
    }

module _ {file : List ℕ} {old table : List ℤ} {c : Cursor} {at : ℕ} (f : Filled file old table c at) where
  abbrev samples : List ℤ
  samples = samples_of (lines_of file)

  done-fits : 0 + length f.done ≤ length old
  done-fits = omega (arith, f.room, ap length f.all, length-append f.done (samples_of (lines_from file c.at)))

  pub same_length : length table ≡ length old
  same_length = ap length f.so_far ∙ splice-length old 0 f.done done-fits

  module _ {from to line : ℕ} {next : Cursor} (found : LineFound file c from to line next) where
    abbrev text : List ℕ
    text = take (to - from) (drop from file)

    -- the samples of this line
    abbrev values : List ℤ
    values = samples_in (content_of 0 text)

    -- and those of the lines after it
    abbrev later : List ℤ
    later = samples_of (lines_from file next.at)

    pub line-keeps : LineKeeps text
    line-keeps = (subst EachKeeps found.lines f.each).0

    parted : samples ≡ (f.done ++ values) ++ later
    unfolding samples_of
    parted = f.all ∙ ap (λ ls. f.done ++ samples_of ls) found.lines ∙ sym (append_assoc f.done values later)

    pub fits : at + length values ≤ length table
    fits = omega (arith, f.place, f.room, same_length, ap length parted, length-append (f.done ++ values) later, length-append f.done values)

    pub goes-on : (table' : List ℤ) (at' : ℕ) → at' ≡ at + length values → table' ≡ spliced table at values → Filled file old table' next at'
    goes-on table' at' n e = record {
      standing = found.next-standing;
      each = (subst EachKeeps found.lines f.each).1;
      done = f.done ++ values;
      place = n ∙ omega (arith, f.place, length-append f.done values);
      so_far =
          let here : at ≡ 0 + length f.done = omega (arith, f.place) in
          e ∙ ap₂ (λ t p. spliced t p values) f.so_far here ∙ splice-both old 0 f.done values done-fits;
      all = parted;
      room = f.room;
    }

  pub ends : EndFound file c → table ≡ spliced old 0 samples
  unfolding samples_of
  ends e = f.so_far ∙ ap (spliced old 0) (sym (f.all ∙ ap (λ ls. f.done ++ samples_of ls) e.lines ∙ append-nil f.done))

-- ---- past a run of plain rows: their samples are put from the place on, and the cursor is so many lines on

module _ {file : List ℕ} {old : List ℤ} where
  rows_on : (rs : List Row) (to : ℕ) {table : List ℤ} {c : Cursor} {at : ℕ} → Filled file old table c at → RowsAt file c.at rs to
      → Filled file old (spliced table at (flatten (map numbers_of rs))) (past c (record { rows = length rs; at = to })) (at + 3 * length rs)
  unfolding flatten
  rows_on [] to {table} {c} {at} f e = rw splice-none (simp (add-zero, e) f)
  rows_on (r ∷ rs) to {table} {c} {at} f (end, row, more) =
      let line-found = row-found f.standing row in
      let samples = plain-samples _ r (row.line 0) in
      let three : at + length (numbers_of r) ≤ length table = rw samples at (fits f line-found) in
      let first_on = goes-on f line-found (spliced table at (numbers_of r)) (at + 3) (rw samples refl) (rw samples refl) in
      let all-on = rows_on rs to first_on more in
      let both = splice-both table at (numbers_of r) (flatten (map numbers_of rs)) three in
      let place : at + 3 + 3 * length rs ≡ at + 3 * suc (length rs) = omega arith in
      let line : c.line + 1 + length rs ≡ c.line + suc (length rs) = omega arith in
      rw (both, place, line) at all-on

  pub run_on : {table table' : List ℤ} {c : Cursor} {at most : ℕ} {run : Run} → Filled file old table c at → Put file c.at most run table at table'
      → Filled file old table' (past c run) (at + 3 * run.rows)
  run_on {run = run} f p = rw (p.table, p.passed.counted) (rows_on p.passed.rows run.at f p.passed.there)
