use native.Mathlib.Omega.{arith}
use Rattle.colour.specs.Places.{three}
use Rattle.lanes.proofs.Sorting.{Sorted, Stepped, sorted, stepped, climbs}
use Rattle.lanes.proofs.path.path_of.Goals as goal

-- The three numbers that come out are the keys in order, so that no difference falls below 0 and no weight is above D.
in_order : (c : goal.After-min-last) → let a = c.args in
    Sorted (three a.spot.red a.spot.green a.spot.blue) c.max-one.result c.max-two.result c.min-last.result
in_order c =
    let a = c.args in
    sorted (three a.spot.red a.spot.green a.spot.blue)
    c.max-upper.ensures
    c.min-lower.ensures
    c.max-one.ensures
    c.min-middle.ensures
    c.max-two.ensures
    c.min-last.ensures

steps : (c : goal.After-min-last) → let a = c.args in
    Stepped a.den a.across c.max-one.result c.max-two.result c.min-last.result
steps c = stepped c.requires (in_order c)

pub overflow_sub-den : goal.overflow_sub-den
overflow_sub-den c = omega (arith, (steps c).first)

pub corner_of-requires-2 : goal.corner_of-requires-2
corner_of-requires-2 c = omega (arith, (steps c.before).first, c.requires.narrow)

pub corner_of-requires-3 : goal.corner_of-requires-3
corner_of-requires-3 c =
    let s = steps c.before.before in
    omega (arith, s.second, s.first, c.requires.narrow)

pub corner_of-requires-4 : goal.corner_of-requires-4
corner_of-requires-4 c =
    let s = steps c.before.before.before in
    omega (arith, s.third, s.second, s.first, c.requires.narrow)

pub returns : goal.returns
returns c =
    climbs c.requires (in_order c.before.before.before.before)
    c.corner_of.ensures
    c.corner_of-2.ensures
    c.corner_of-3.ensures
    c.corner_of-4.ensures
