use native.Mathlib.Omega.{arith}
use Rattle.placing.proofs.Places.{same-in-terms, line-fits, line-place}
use Rattle.placing.proofs.place.place_at.Goals as goal

-- The plan's line for the colour is the axis of its own domain.
pub plan_of-requires-clause-in_terms : goal.plan_of-requires-clause-in_terms
plan_of-requires-clause-in_terms c = same-in-terms c.args.raw c.requires.greatest_nonzero (omega (arith, c.well_formed.1.0))

pub place_of-requires : goal.place_of-requires
place_of-requires c =
    let fits = line-fits c.args.raw c.requires.greatest_nonzero (omega (arith, c.well_formed.1.0)) c.args.d c.requires.readable c.args.c c.plan_of.ensures c.line_of-line.ensures in
    record { axis_fits = fits.0; cells_fit = fits.1 }

pub returns : goal.returns
returns c =
    line-place c.args.raw c.requires.greatest_nonzero (omega (arith, c.well_formed.1.0)) c.args.d c.requires.readable c.args.c c.plan_of.ensures c.line_of-line.ensures
    c.args.code c.place_of.ensures
