-- Plain rows as lines: a row is the line that the cursor finds, the judge lets it pass where rows are left, and a run of them goes forward.
use Prim.Native.Nat.{ℕ, zero, suc, ◌+◌, ◌-◌, ◌≤◌, ◌<◌}
use mathlib.Core.Path.{◌≡◌, refl}
use mathlib.Core.Bool.{Bool, true, false, cond}
use mathlib.Core.List.{List, [], ◌∷◌}
use native.Mathlib.Omega.{arith}
use borrow.Author.Tests.{eqb-false, le-ltb, lt-ltb, ne_eqb}
use lib.Dec.{eqb}
use lib.ListN.{length}
use Rattle.rules.specs.Units.{rows_of}
use Rattle.rules.specs.Reading.Judge.{head_fault, order_fault, State}
use Rattle.rules.specs.declared.Form.TheVariants.{Data}
use Rattle.rules.specs.declared.Row.{Row}
use Rattle.rules.proofs.Sound.{range-rows-most}
use Rattle.rules.proofs.Tests.{none_first, none-need}
use Rattle.text.specs.declared.cursor.Cursor.{Cursor}
use Rattle.text.proofs.Standing.{LineFound, Standing, step_line}
use Rattle.plain.specs.Shapes.{RowAt, RowsAt, Passed}
use Rattle.plain.specs.declared.rows.Run.{Run}
use Rattle.reading.specs.View.{left, Fit, RowsWelcome, size_of}
use Rattle.reading.specs.Runs.{past}
use Rattle.reading.proofs.Sized.{rows-described}
use Rattle.std.specs.Prelude.{None}

-- ---- where they stand

pub row-found : {s : List ℕ} {c : Cursor} {end : ℕ} {r : Row} → Standing s c → RowAt s c.at end r
    → LineFound s c c.at end c.line (past c (record { rows = 1; at = end + 1 }))
row-found {s} {c} {end} standing row =
    step_line s c standing _ (rw (le-ltb (length s) c.at (omega (arith, row.ends, row.inside)), row.ends, lt-ltb end (length s) row.inside))

rows-forward : (s : List ℕ) (from to : ℕ) (rs : List Row) → RowsAt s from rs to → from ≤ to
rows-forward s from to [] h = omega (arith, h)
rows-forward s from to (r ∷ rs) (end, row, more) = omega (arith, row.ends, rows-forward s (end + 1) to rs more)

pub run-forward : {s : List ℕ} {from most : ℕ} {run : Run} → Passed s from most run → from ≤ run.at
run-forward {s} {from} {most} {run} p = rows-forward s from run.at p.rows p.there

-- ---- rows that are left

-- so many rows more, if any, come after a first one and are no more than the size has
abbrev pub RowsLeft : State → ℕ → Type 0
RowsLeft st more = 0 < more → (0 < st.rows) × (st.rows + more ≤ rows_of (size_of st).kind (size_of st).n)

pub rows_left : (st : State) (more : ℕ) → more ≤ left st → RowsLeft st more
rows_left st more h there = by (eqb st.rows 0) refl h
  where
    by : (b : Bool) → eqb st.rows 0 ≡ b → more ≤ cond b 0 (rows_of (size_of st).kind (size_of st).n - st.rows)
        → (0 < st.rows) × (st.rows + more ≤ rows_of (size_of st).kind (size_of st).n)
    by true e k = absurd (omega arith)
    by false e k = let some-there : 0 < st.rows = omega (arith, eqb-false st.rows 0 e) in (some-there, omega arith)

module _ {st : State} (f : Fit st) where
  pub rows-welcome : (more : ℕ) → RowsLeft st more → RowsWelcome st more
  rows-welcome zero h = record { sized_so = λ e. f.after_size (omega arith); room = omega (arith, f.few) }
  rows-welcome (suc more) h =
      let (there, fewer) = h (omega arith) in
      let sized = f.after_size there in
      record { sized_so = λ _. sized; room = omega (arith, fewer, range-rows-most (size_of st).kind (size_of st).n (f.size_within sized)) }

  -- and the next one has no fault in its place
  pub row-placed : (places : ℕ) → 0 < st.rows → st.rows < rows_of (size_of st).kind (size_of st).n → order_fault places st Data ≡ None
  unfolding order_fault head_fault
  row-placed places there fewer =
      none_first _ _ (rw (ne_eqb st.rows 0 (λ e. omega arith))) (none-need _ _ _ (rw (rows-described st) (lt-ltb _ _ fewer)) refl)
