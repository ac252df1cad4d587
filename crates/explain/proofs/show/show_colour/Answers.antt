use Prim.Native.Nat.{◌*◌}
use Rattle.rules.specs.Demands.{Each}
use Rattle.colour.specs.Adding.{RowAt}
use Rattle.halves.specs.Listed.{listed}
use Rattle.explain.proofs.Spanning.{listed-stand}
use Rattle.explain.proofs.show.show_colour.Goals as goal

-- the rows of the colour stand in the table
-- The rows of a look that is shown stand in the table, and so do the two that carry nothing.

pub show_row-requires : goal.show_row-requires
show_row-requires c =
    let stands : let a = c.args in Each (λ s. RowAt a.table.now (3 * s.row)) (listed c.four_of-four.result) = listed-stand c.requires c.args.c c.four_of-four.result c.four_of-four.ensures in
    stands.0

pub show_row-requires-2 : goal.show_row-requires-2
show_row-requires-2 c =
    let stands : let a = c.args in Each (λ s. RowAt a.table.now (3 * s.row)) (listed c.four_of-four.result) = listed-stand c.requires c.args.c c.four_of-four.result c.four_of-four.ensures in
    stands.1.0

pub show_row-requires-3 : goal.show_row-requires-3
show_row-requires-3 c =
    let stands : let a = c.args in Each (λ s. RowAt a.table.now (3 * s.row)) (listed c.four_of-four.result) = listed-stand c.requires c.args.c c.four_of-four.result c.four_of-four.ensures in
    stands.1.1.0

pub show_row-requires-4 : goal.show_row-requires-4
show_row-requires-4 c =
    let stands : let a = c.args in Each (λ s. RowAt a.table.now (3 * s.row)) (listed c.four_of-four.result) = listed-stand c.requires c.args.c c.four_of-four.result c.four_of-four.ensures in
    stands.1.1.1.0
