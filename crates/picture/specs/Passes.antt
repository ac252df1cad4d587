-- One colour of a picture in one pass: every third place from the colour's own on, each of its code alone.
use Rattle.std.specs.Prelude.{ℕ, ◌%◌, ◌≤◌, ◌<◌, ◌≡◌, List, ℤ, length, get_or}
use Rattle.rules.specs.Units.{raw_m}
use Rattle.rules.specs.Looking.{line_code}
use Rattle.colour.specs.Lines.{Lined}
use Rattle.colour.specs.declared.lines.Line.{Line}
use Rattle.strips.specs.Strips.{Stripped, LaidOut}
use Rattle.strips.specs.declared.Strip.{Strip}
use Rattle.picture.specs.Filling.{Inside}

-- ---- what a pass makes of each code

-- look's code, by the description and the depths that a line was made of
abbrev pub line_by : {line : Line} {table : List ℤ} → Lined line table → ℕ → ℕ
line_by {line} {table} l = line_code l.planned.d table l.planned.depths line.colour

-- and that a strip was made of
abbrev pub strip_by : {strip : Strip} {table : List ℤ} → Stripped strip table → ℕ → ℕ
strip_by {strip} {table} s = line_code s.lined.planned.d table s.lined.planned.depths strip.colour

-- ---- of what

-- the colour's place in a pixel, and room for all codes
pub record Passable (first : ℕ) (src : List ℕ) (places : ℕ) : Type 0 where
  pub of_three : first < 3
  pub room : length src ≤ places

-- the pieces of a strip, and codes within the raw depth
pub record StripOver (strip : Strip) (table slopes bases : List ℤ) (src : List ℕ) : Type 0 where
  pub stripped : Stripped strip table
  pub laid : LaidOut strip table slopes bases
  pub codes : Inside (raw_m stripped.lined.planned.depths) src

-- ---- a pass

-- the output dst' is dst with, at the colour's places, what f makes of the codes of src
pub record Passed (f : ℕ → ℕ) (first : ℕ) (src dst dst' : List ℕ) : Type 0 where
  pub long : length dst' ≡ length dst
  pub made : (k : ℕ) → k < length src → k % 3 ≡ first → get_or dst' k 0 ≡ f (get_or src k 0)
  pub other : (k : ℕ) → (k % 3 ≡ first → ⊥) → get_or dst' k 0 ≡ get_or dst k 0
  pub later : (k : ℕ) → length src ≤ k → get_or dst' k 0 ≡ get_or dst k 0
