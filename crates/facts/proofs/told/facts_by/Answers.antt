use mathlib.Core.Path.{refl}
use Rattle.facts.proofs.Bounds.{value-most, within-bounds}
use Rattle.facts.proofs.told.facts_by.Goals as goal

-- What is full on the axis is small enough for each part, and the parts are the facts.
pub distance_of-requires-clause-whole_bound : goal.distance_of-requires-clause-whole_bound
distance_of-requires-clause-whole_bound c = value-most c.requires.axis_fits c.requires.codable _ c.requires.sum_bound c.in_codes-value.ensures

pub returns : goal.returns
returns c =
    within-bounds c.requires.axis_fits c.requires.codable _ c.requires.sum_bound refl refl c.lowest.ensures c.in_codes-value.ensures c.how_settled.ensures
    c.distance_of.ensures
