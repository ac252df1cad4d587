-- The line that is given for a row is the row's own: at that number of the file stands the data line of the row.
use Prim.Native.Nat.{ℕ, zero, suc, ◌+◌, ◌-◌, ◌<◌}
use mathlib.Core.Path.{◌≡◌, refl, ap, ◌∙◌}
use mathlib.Core.Bool.{Bool, true, false}
use mathlib.Core.List.{List, [], ◌∷◌}
use native.Mathlib.Omega.{arith}
use borrow.Author.Tests.{ne_eqb}
use lib.ListN.{length, get_or}
use Rattle.rules.specs.Reading.Lines.{lines_of}
use Rattle.rules.specs.Reading.Contents.{form_of}
use Rattle.rules.specs.Demands.{is_data, data_lines}
use Rattle.explain.specs.RowLines.{data_line_from, line_of_row}

-- the line of number m, among lines of which the first has number n, is l
record Stands (n : ℕ) (ls : List (List ℕ)) (m : ℕ) (l : List ℕ) : Type 0 where
  pub place : ℕ
  pub number : m ≡ n + place
  pub inside : place < length ls
  pub there : get_or ls place [] ≡ l

further : {n m : ℕ} {l x : List ℕ} {ls : List (List ℕ)} → Stands (suc n) ls m l → Stands n (x ∷ ls) m l
further s = record { place = suc s.place; number = s.number ∙ omega arith; inside = omega (arith, s.inside); there = s.there }

stands : (ls : List (List ℕ)) (n k : ℕ) → k < length (data_lines ls) → Stands n ls (data_line_from n k ls) (get_or (data_lines ls) k [])
unfolding data_line_from data_lines
stands [] n k h = absurd (omega arith)
stands (l ∷ ls) n k h = by (is_data (form_of l)) refl k h (stands ls (suc n))
  where
    by : (b : Bool) → is_data (form_of l) ≡ b → (k : ℕ) → k < length (data_lines (l ∷ ls))
        → ((j : ℕ) → j < length (data_lines ls) → Stands (suc n) ls (data_line_from (suc n) j ls) (get_or (data_lines ls) j []))
        → Stands n (l ∷ ls) (data_line_from n k (l ∷ ls)) (get_or (data_lines (l ∷ ls)) k [])
    by false e k h past = rw e (further (past k (rw e at h)))
    by true e zero h past = rw e (record { place = 0; number = omega arith; inside = omega arith; there = refl })
    by true e (suc k) h past =
        let i : suc k < suc (length (data_lines ls)) = rw e at h in
        let less : suc k - 1 ≡ k = omega arith in
        rw (e, ne_eqb (suc k) 0 (λ z. omega arith), less) (further (past k (omega arith)))

-- a file's row, by its line
module _ (file : List ℕ) (row : ℕ) (h : row < length (data_lines (lines_of file))) where
  pub rows-own-line : get_or (lines_of file) (line_of_row file row - 1) [] ≡ get_or (data_lines (lines_of file)) row []
  rows-own-line =
      let s = stands (lines_of file) 1 row h in
      let before : line_of_row file row - 1 ≡ s.place = omega (arith, s.number) in
      ap (λ k. get_or (lines_of file) k []) before ∙ s.there
