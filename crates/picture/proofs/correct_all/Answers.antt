use mathlib.Core.Path.{◌≡◌, subst}
use mathlib.Core.List.{List}
use lib.IntN.{ℤ}
use Rattle.std.specs.Prelude.{Some}
use Rattle.rules.specs.declared.Depths.{Depths}
use Rattle.rules.specs.declared.Description.{Description}
use Rattle.lanes.specs.Cubes.{Nearby, CubedFor, CubedIf}
use Rattle.lanes.specs.declared.cube.Cube.{Cube}
use Rattle.lanes.specs.declared.cube.Way.{Way}
use Rattle.lanes.specs.declared.cube.Way.TheVariants.{Near, Far}
use Rattle.picture.proofs.Blocking.{within-so, made-for}
use Rattle.picture.proofs.correct_all.Goals as goal

-- Whichever way a picture goes, its codes are look's: colour by colour, by a cube that is one of its description and depths, or as look does.
pub cube_for-requires : goal.cube_for-requires
cube_for-requires c =
    (c.args.table.now, (record { planned = c.requires.depths_value.0; three_d = c.in-ThreeD.is }, c.requires.depths_value.1.0))

near : {d : Description} {depths : Depths} {table : List ℤ} {way : Way} {cube : Cube} → way ≡ Near cube → CubedIf d depths table (Some way) → CubedFor d depths cube table × Nearby cube
near {d} {depths} {table} is found = subst (λ w. CubedIf d depths table (Some w)) is found

far : {d : Description} {depths : Depths} {table : List ℤ} {way : Way} {cube : Cube} → way ≡ Far cube → CubedIf d depths table (Some way) → CubedFor d depths cube table
far {d} {depths} {table} is found = subst (λ w. CubedIf d depths table (Some w)) is found

pub correct_cube-requires-clause-within : goal.correct_cube-requires-clause-within
correct_cube-requires-clause-within c =
    let (p, (e, all)) = c.requires.depths_value in
    let q = (near c.in-Near.is (c.in-Some.ensures c.args.table.now (record { planned = p; three_d = c.in-ThreeD.is }) e)).0 in
    (q.cubed, within-so q c.args.src.now all)

pub correct_cube-requires-clause-nearby : goal.correct_cube-requires-clause-nearby
correct_cube-requires-clause-nearby c =
    let (p, (e, all)) = c.requires.depths_value in
    λ _. (near c.in-Near.is (c.in-Some.ensures c.args.table.now (record { planned = p; three_d = c.in-ThreeD.is }) e)).1

pub correct_cube-requires-in-Far-clause-within : goal.correct_cube-requires-in-Far-clause-within
correct_cube-requires-in-Far-clause-within c =
    let (p, (e, all)) = c.requires.depths_value in
    let q = far c.in-Far.is (c.in-Some.ensures c.args.table.now (record { planned = p; three_d = c.in-ThreeD.is }) e) in
    (q.cubed, within-so q c.args.src.now all)

pub returns-in-Near : goal.returns-in-Near
returns-in-Near c =
    λ p e.
    let q = (near c.in-Near.is (c.in-Some.ensures c.args.table.now (record { planned = p; three_d = c.in-ThreeD.is }) e)).0 in
    made-for q c.args.src.now c.args.dst.now (c.correct_cube.ensures q.cubed (within-so q c.args.src.now c.requires.depths_value.1.1))

pub returns-in-Far : goal.returns-in-Far
returns-in-Far c =
    λ p e.
    let q = far c.in-Far.is (c.in-Some.ensures c.args.table.now (record { planned = p; three_d = c.in-ThreeD.is }) e) in
    made-for q c.args.src.now c.args.dst.now (c.correct_cube-in-Far.ensures q.cubed (within-so q c.args.src.now c.requires.depths_value.1.1))
