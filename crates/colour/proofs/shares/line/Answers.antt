use Rattle.rules.specs.declared.Colour.TheVariants.{Red, Green, Blue}
use Rattle.colour.specs.Places.{shown_by}
use Rattle.colour.proofs.Plans.{cells_fit, axis-fits}
use Rattle.colour.proofs.shares.line.Goals as goal

-- The six shares are the three pairs, one after another.
pub pair_of-red-requires : goal.pair_of-red-requires
pair_of-red-requires c = let p = c.requires.1 in record { axis_fits = axis-fits p Red; cells_fit = cells_fit p }

pub pair_of-green-requires : goal.pair_of-green-requires
pair_of-green-requires c = let p = c.requires.1 in record { axis_fits = axis-fits p Green; cells_fit = cells_fit p }

pub pair_of-blue-requires : goal.pair_of-blue-requires
pair_of-blue-requires c = let p = c.requires.1 in record { axis_fits = axis-fits p Blue; cells_fit = cells_fit p }

pub returns : goal.returns
unfolding shown_by
returns c = rw (← c.pair_of-red.ensures, ← c.pair_of-green.ensures, ← c.pair_of-blue.ensures)
