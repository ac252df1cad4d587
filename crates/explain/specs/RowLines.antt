-- The line on which a row stands: rows are the data lines, counted from 0, and lines are counted from 1.
use Rattle.std.specs.Prelude.{ℕ, suc, ◌-◌, cond, List, [], ◌∷◌, eqb}
use Rattle.rules.specs.Reading.Lines.{lines_of}
use Rattle.rules.specs.Reading.Contents.{form_of}
use Rattle.rules.specs.Demands.{is_data}

-- the number of data line k among lines of which the first has number n; 0 if there is none
unfoldable pub data_line_from : ℕ → ℕ → List (List ℕ) → ℕ
data_line_from n k [] = 0
data_line_from n k (l ∷ ls) =
    cond (is_data (form_of l)) (cond (eqb k 0) n (data_line_from (suc n) (k - 1) ls)) (data_line_from (suc n) k ls)

abbrev pub line_of_row : List ℕ → ℕ → ℕ
line_of_row file row = data_line_from 1 row (lines_of file)
