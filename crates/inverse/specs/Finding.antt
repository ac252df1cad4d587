-- A search as the code keeps it, with how far off its nearest code is.
use Rattle.std.specs.Prelude.{ℕ, ◌≡◌, List, ℤ}
use Rattle.rules.specs.Looking.{line_code}
use Rattle.rules.specs.Inverting.{Search, off}
use Rattle.colour.specs.Lines.{Lined}
use Rattle.colour.specs.declared.lines.Line.{Line}
use Rattle.inverse.specs.declared.Found.{Found}

-- what each raw code is corrected to, by the rule
abbrev pub corrected_by : {line : Line} {table : List ℤ} → Lined line table → ℕ → ℕ
corrected_by {line} {table} l = line_code l.planned.d table l.planned.depths line.colour

abbrev pub search_of : Found → Search
search_of found = record { nearest = found.nearest; tries = found.tries }

abbrev pub found_by : (ℕ → ℕ) → ℕ → Search → Found
found_by corrected wanted s = record { nearest = s.nearest; off = off corrected wanted s.nearest; tries = s.tries }

-- what is kept is how far off the nearest is
abbrev pub OffSo : (ℕ → ℕ) → ℕ → Found → Type 0
OffSo corrected wanted found = found.off ≡ off corrected wanted found.nearest
