-- Document 01, "Interpolation": the other readings that demand 3 speaks of, and what makes an order of the axes the rule's own.
use Rattle.std.specs.Prelude.{ℕ, ◌+◌, ◌*◌, ◌≤◌, ◌<◌, ◌≡◌}
use Rattle.rules.specs.Units.{colour_place}
use Rattle.rules.specs.Looking.Interpolation.{Order, 1st, 2nd, 3rd}
use Rattle.rules.specs.declared.Colour.{Colour}

-- a reading of the position p: a cell i of the table, and a part f of it, from 0 to D
pub record Reading (n den p i f : ℕ) : Type 0 where
  pub cell : i + 2 ≤ n
  pub part : f ≤ den
  pub place : p ≡ i * den + f

-- an order in which the fractions do not increase
pub record Descends (f : Colour → ℕ) (o : Order) : Type 0 where
  pub upper : f (2nd o) ≤ f (1st o)
  pub lower : f (3rd o) ≤ f (2nd o)

-- the rule's own order: the greatest first, and equal ones stand red, green, blue
pub record ByRule (f : Colour → ℕ) (o : Order) : Type 0 where
  pub descends : Descends f o
  pub upper : f (1st o) ≡ f (2nd o) → colour_place (1st o) < colour_place (2nd o)
  pub lower : f (2nd o) ≡ f (3rd o) → colour_place (2nd o) < colour_place (3rd o)
