-- Digits, numbers and rows in the plain shape: where the code finds one, what stands there is one of the rules' own, of this value. Where it finds none
-- nothing is said, so that no rule hangs on the shape.
use Rattle.std.specs.Prelude.{ℕ, ◌+◌, ◌*◌, ◌^◌, ◌≤◌, ◌<◌, ◌≡◌, true, ℤ, pos, length, take, drop}
use mathlib.Core.List.{List, [], ◌∷◌, ◌++◌, map, flatten}
use Rattle.rules.specs.Units.{sample_places, sample_limit}
use Rattle.rules.specs.Memory.{spliced}
use Rattle.rules.specs.Reading.Lines.{digit, number_byte, every}
use Rattle.rules.specs.Reading.Numerals.{Exact, Mantissa, spell}
use Rattle.rules.specs.Reading.Items.{numbers_of}
use Rattle.rules.specs.Reading.Grammar.{Line}
use Rattle.rules.specs.declared.Item.TheVariants.{OfRow}
use Rattle.rules.specs.declared.Row.{Row}
use Rattle.numbers.specs.Parts.{part}
use Rattle.text.specs.LinesFrom.{end_of}
use Rattle.plain.specs.declared.digits.Digits.{Digits}
use Rattle.plain.specs.declared.rows.Run.{Run}

-- the answer is the place that was asked about, or this is so
abbrev pub Found : ℕ → ℕ → Type 0 → Type 0
Found at answer X = (answer ≡ at → ⊥) → X

-- digits from a place on, at most so many, and the number that they spell after m
pub record Spelt (s : List ℕ) (from m most : ℕ) (d : Digits) : Type 0 where
  pub count : ℕ
  pub few : count ≤ most
  pub next_so : d.next ≡ from + count
  pub all : every digit (take count (drop from s)) ≡ true
  pub value_so : d.value ≡ spell m (take count (drop from s))

-- a number without its sign, of the grammar, that is v units of a sample
pub record UnsignedAt (s : List ℕ) (from to : ℕ) (v : ℤ) : Type 0 where
  pub whole : List ℕ
  pub fraction : List ℕ
  pub size : ℕ
  pub mantissa : Mantissa (part s from to) whole fraction
  pub onward : from < to
  pub near : to ≤ from + 11
  pub value_so : v ≡ pos size
  pub size_so : size * 10 ^ length fraction ≡ spell 0 (whole ++ fraction) * 10 ^ sample_places
  pub within : size ≤ sample_limit

-- a number that is v units of a sample, exactly
pub record NumberAt (s : List ℕ) (from to : ℕ) (v : ℤ) : Type 0 where
  pub exact : Exact sample_places sample_limit (part s from to) v
  pub bytes : every number_byte (part s from to) ≡ true
  pub onward : from < to
  pub near : to ≤ from + 12

-- the line that starts at a place ends in a newline at another, and gives a row
pub record RowAt (s : List ℕ) (from to : ℕ) (r : Row) : Type 0 where
  pub ends : end_of s from ≡ to
  pub inside : to < length s
  pub line : (p : ℕ) → Line p (part s from to) (OfRow r)

-- rows one after another, from a place to another
abbrev pub RowsAt : List ℕ → ℕ → List Row → ℕ → Type 0
RowsAt s from [] to = to ≡ from
RowsAt s from (r ∷ rs) to = (end : ℕ) × RowAt s from end r × RowsAt s (end + 1) rs to

-- a run of rows, at most so many
pub record Passed (s : List ℕ) (from most : ℕ) (run : Run) : Type 0 where
  pub rows : List Row
  pub there : RowsAt s from rows run.at
  pub counted : run.rows ≡ length rows
  pub few : run.rows ≤ most

-- and their samples put into a table from a place on
pub record Put (s : List ℕ) (from most : ℕ) (run : Run) (old : List ℤ) (to : ℕ) (new : List ℤ) : Type 0 where
  pub passed : Passed s from most run
  pub table : new ≡ spliced old to (flatten (map numbers_of passed.rows))
