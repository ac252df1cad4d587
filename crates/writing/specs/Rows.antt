-- The three numbers of a line: a row of the table, or bounds in the units of samples, of which the text is the same.
use Rattle.std.specs.Prelude.{ℕ, ◌+◌, ◌*◌, ◌≤◌, ◌≡◌, true, List, ℤ, pos, nat_abs, ◌*ℤ◌, get_or}
use Rattle.rules.specs.Units.{bound_limit, in_range}
use Rattle.rules.specs.Reading.Grammar.{lowers, uppers}
use Rattle.rules.specs.Writing.{row_text, title_fits}
use Rattle.rules.specs.declared.Bounds.{Bounds}
use Rattle.rules.specs.declared.Description.{Description}
use Rattle.rules.specs.declared.Row.{Row}

-- row n of a table
abbrev pub row_at : List ℤ → ℕ → Row
row_at table n = record {
  red = record { 0 = get_or table (3 * n) (pos 0) };
  green = record { 0 = get_or table (3 * n + 1) (pos 0) };
  blue = record { 0 = get_or table (3 * n + 2) (pos 0) };
}

-- the line of a row
abbrev pub text_of : Row → List ℕ
text_of r = row_text r.red.0 r.green.0 r.blue.0

-- bounds in ten-millionths
abbrev pub finer : Bounds → Row
finer b = record {
  red = record { 0 = b.red.0 *ℤ pos 10_000 };
  green = record { 0 = b.green.0 *ℤ pos 10_000 };
  blue = record { 0 = b.blue.0 *ℤ pos 10_000 };
}

pub record BoundsFit (b : Bounds) : Type 0 where
  pub red : nat_abs b.red.0 ≤ bound_limit
  pub green : nat_abs b.green.0 ≤ bound_limit
  pub blue : nat_abs b.blue.0 ≤ bound_limit

-- what has been tried before the head is written: N, the bounds, and the title
pub record Headed (d : Description) (title : List ℕ) : Type 0 where
  pub range : in_range d.kind d.n ≡ true
  pub lower : BoundsFit (lowers d)
  pub upper : BoundsFit (uppers d)
  pub titled : title_fits d.title.there title ≡ true
