use Rattle.colour.specs.Places.{place_of}
use Rattle.colour.proofs.place.place_of.Goals as goal

pub returns : goal.returns
unfolding place_of
returns c = rw (c.min-i.ensures, c.min-a.ensures, c.above_lower-above.ensures)
