-- How many rows a file has and how many its size asks for, whatever else is wrong with it.
use Rattle.std.specs.Prelude.{ℕ, cond, List, [], ◌∷◌, leb, length, Err, None, Ok, Option, Some}
use Rattle.rules.specs.Reading.Lines.{line_limit, lines_of}
use Rattle.rules.specs.Reading.Items.{size_in}
use Rattle.rules.specs.Reading.Contents.{content_of}
use Rattle.rules.specs.Demands.{data_lines}
use Rattle.rules.specs.declared.Size.{Size}
use Rattle.rules.specs.Results.{Content}

-- the data lines of a file
abbrev pub rows_in : List ℕ → ℕ
rows_in file = length (data_lines (lines_of file))

-- the size that a line gives, if it gives one
abbrev pub size_said : Content → Option Size
size_said (Ok i) = size_in i
size_said (Err r) = None

unfoldable pub size_on : List ℕ → Option Size
size_on l = cond (leb (length l) line_limit) (size_said (content_of 0 l)) None

abbrev pub or_later : Option Size → Option Size → Option Size
or_later None later = later
or_later (Some s) later = Some s

-- the first of some lines that gives one
unfoldable pub first_size : List (List ℕ) → Option Size
first_size [] = None
first_size (l ∷ ls) = or_later (size_on l) (first_size ls)
