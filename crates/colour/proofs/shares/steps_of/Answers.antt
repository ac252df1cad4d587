use Rattle.rules.specs.declared.Colour.TheVariants.{Red, Green, Blue}
use Rattle.colour.specs.Places.{steps_of}
use Rattle.colour.proofs.Plans.{cells_fit, axis-fits}
use Rattle.colour.proofs.shares.steps_of.Goals as goal

-- Each colour by its own axis.
pub step_of-requires : goal.step_of-requires
step_of-requires c = let p = c.requires.1 in record { axis_fits = axis-fits p Red; cells_fit = cells_fit p }

pub step_of-requires-2 : goal.step_of-requires-2
step_of-requires-2 c = let p = c.requires.1 in record { axis_fits = axis-fits p Green; cells_fit = cells_fit p }

pub step_of-requires-3 : goal.step_of-requires-3
step_of-requires-3 c = let p = c.requires.1 in record { axis_fits = axis-fits p Blue; cells_fit = cells_fit p }

pub returns : goal.returns
unfolding steps_of
returns c = rw (c.step_of.ensures, c.step_of-2.ensures, c.step_of-3.ensures)
