use Rattle.colour.specs.Places.{step_of}
use Rattle.colour.proofs.shares.step_of.Goals as goal

pub returns : goal.returns
unfolding step_of
returns c = rw c.place_of-at.ensures
