use mathlib.Core.Path.{sym, subst}
use mathlib.Core.List.{List}
use lib.IntN.{ℤ}
use Rattle.rules.specs.declared.Colour.TheVariants.{Red, Green, Blue}
use Rattle.colour.specs.Adding.{Codable}
use Rattle.colour.proofs.Totals.{each-colour}
use Rattle.colour.proofs.Weighing.{same_codes}
use Rattle.lanes.specs.Cubes.{Wide, Placed}
use Rattle.lanes.specs.Paths.{PathFits}
use Rattle.lanes.specs.declared.cube.Cube.{Cube}
use Rattle.lanes.specs.declared.path.Spot.{Spot}
use Rattle.lanes.proofs.Placing.{cube-codable, keyed, climbs-fit, climbs-code}
use Rattle.lanes.proofs.cube.codes_by.Given as Given
use Rattle.lanes.proofs.cube.codes_by.Goals as goal

-- The keys are those of a pixel, so that the path fits the table, and its three sums make the corrected codes: the axis is codable with
-- their M, which is the cube's, and the wide reciprocal exact.
path-fits : (g : Given.Over) (c : goal.After-path_of-path g) → PathFits c.args.table.now c.path_of-path.result
path-fits g c = climbs-fit c.requires.placed c.path_of-path.ensures

-- its M is that of corrected codes
codes : {cube : Cube} {table : List ℤ} {spot : Spot} → Placed cube table spot
    → Wide cube × Codable cube.times cube.axis cube.most
codes {cube} p = (p.cubed.wide, subst (Codable cube.times cube.axis) (sym p.cubed.most_is) (cube-codable p.cubed))

pub path_of-path-requires : goal.path_of-path-requires
path_of-path-requires g c = keyed c.requires.placed

pub path_sum-requires : goal.path_sum-requires
path_sum-requires g c = path-fits g c

pub code_by-requires : goal.code_by-requires
code_by-requires g c = let (w, d) = codes c.requires.placed in record { wide = w; codable = d; nearby = c.requires.nearby }

pub path_sum-requires-2 : goal.path_sum-requires-2
path_sum-requires-2 g c = path-fits g c.before.before

pub code_by-requires-2 : goal.code_by-requires-2
code_by-requires-2 g c = let (w, d) = codes c.requires.placed in record { wide = w; codable = d; nearby = c.requires.nearby }

pub path_sum-requires-3 : goal.path_sum-requires-3
path_sum-requires-3 g c = path-fits g c.before.before.before.before

pub code_by-requires-3 : goal.code_by-requires-3
code_by-requires-3 g c = let (w, d) = codes c.requires.placed in record { wide = w; codable = d; nearby = c.requires.nearby }

pub returns : goal.returns
returns g c =
    let second = c.before.before in
    let first = second.before.before in
    let way = first.path_of-path.ensures in
    λ p. same_codes _ _
    (each-colour _ (climbs-code p way Red p.cubed.most_is first.path_sum.ensures first.code_by.ensures)
    (climbs-code p way Green p.cubed.most_is second.path_sum-2.ensures second.code_by-2.ensures)
    (climbs-code p way Blue p.cubed.most_is c.path_sum-3.ensures c.code_by-3.ensures))
