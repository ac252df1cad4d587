use native.Mathlib.Omega.{arith}
use Rattle.rules.specs.Looking.Interpolation.{pair_by}
use Rattle.colour.specs.Places.{pair_of}
use Rattle.colour.proofs.Placing.{Placed, place-fits}
use Rattle.colour.proofs.shares.pair_of.Goals as goal
use Rattle.colour.proofs.shares.pair_of.Goals.{After-place_of-at}

-- The fraction is at most D and the index below N − 1, so the two rows and weights are the definition's.
placed : (c : After-place_of-at) → Placed c.args.axis c.args.cells c.place_of-at.result
placed c = rw c.place_of-at.ensures (place-fits c.requires.axis_fits c.requires.cells_fit c.args.code)

pub overflow_sub-rest : goal.overflow_sub-rest
overflow_sub-rest c = omega (arith, placed c.before)

pub overflow_add-i : goal.overflow_add-i
overflow_add-i c = omega (arith, placed c.before.before, c.requires.cells_fit.most)

pub share_of-requires-2 : goal.share_of-requires-2
share_of-requires-2 c = omega (arith, placed c.before.before, c.requires.axis_fits.most)

pub returns : goal.returns
unfolding pair_of pair_by
returns c = rw (c.share_of-2.ensures, c.share_of.ensures, c.place_of-at.ensures)
