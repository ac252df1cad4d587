-- Document 01, "Units and places": where a row stands in the cube of a 3D table.
use Rattle.std.specs.Prelude.{ℕ, ◌<◌, ◌≡◌}
use Rattle.rules.specs.Units.{row_at}
use Rattle.rules.specs.declared.Colour.{Colour}
use Rattle.rules.specs.declared.Colour.TheVariants.{Red, Green, Blue}
use Rattle.placing.specs.declared.grid.Grid.{Grid}

-- the index along an axis
abbrev pub along : Grid → Colour → ℕ
along g Red = g.red
along g Green = g.green
along g Blue = g.blue

-- the row of these three indices, each of which is one of the N of its axis; no row has two such (`one-grid`)
pub record StandsAt (n row : ℕ) (g : Grid) : Type 0 where
  pub is : row_at n (along g) ≡ row
  pub inside : (c : Colour) → along g c < n
