use Rattle.colour.specs.Places.{path_by_steps}
use Rattle.colour.proofs.shares.path_by.Goals as goal

pub returns : goal.returns
unfolding path_by_steps
returns c = c.path_along.ensures
