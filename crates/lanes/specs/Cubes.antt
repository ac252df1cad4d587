-- A cube: what its numbers are to a plan, and what its lanes say of a pixel.
use Rattle.std.specs.Prelude.{ℕ, ◌+◌, ◌*◌, ◌/◌, ◌≤◌, ◌<◌, ◌≡◌, true, Option, Some, None, IfSome, List, leb, ℤ, nat_abs}
use Rattle.whole.specs.Reciprocals.{reciprocal_of, excess, two_to87, wide_of}
use Rattle.rules.specs.Units.{raw_m, corrected_m, code_in}
use Rattle.rules.specs.declared.Codes.{Codes}
use Rattle.rules.specs.declared.Colour.{Colour}
use Rattle.rules.specs.declared.Colour.TheVariants.{Red, Green, Blue}
use Rattle.rules.specs.declared.Depths.{Depths}
use Rattle.rules.specs.declared.Description.{Description}
use Rattle.rules.specs.declared.Kind.TheVariants.{ThreeD}
use Rattle.colour.specs.Plans.{axis_in, Planned}
use Rattle.colour.specs.declared.plan.Axis.{Axis}
use Rattle.colour.specs.declared.plan.Plan.{Plan}
use Rattle.lanes.specs.Lanes.{key_by, offset_by, RunsAlong}
use Rattle.lanes.specs.Parts.{Parted}
use Rattle.lanes.specs.declared.cube.Cube.{Cube}
use Rattle.lanes.specs.declared.cube.Lanes.{Lanes}
use Rattle.lanes.specs.declared.cube.Way.{Way}
use Rattle.lanes.specs.declared.cube.Way.TheVariants.{Near, Far}
use Rattle.lanes.specs.declared.lane.Lane.{Lane}
use Rattle.lanes.specs.declared.path.Spot.{Spot}

-- ---- the lanes of a plan

-- the lane of an axis: its positions are those of the axis in parts of g each
pub record LaneOf (g m cells : ℕ) (axis : Axis) (lane : Lane) : Type 0 where
  pub parts : Axis
  pub parted : Parted g axis parts
  pub runs : RunsAlong m cells parts.den (parts.each * cells) (nat_abs parts.low.0 * cells) lane
  pub stride_is : lane.stride ≡ 3 * axis.stride

abbrev pub LaneIf : ℕ → ℕ → ℕ → Axis → Option Lane → Type 0
LaneIf g m cells axis found = IfSome found (λ lane. LaneOf g m cells axis lane)

abbrev pub lane_in : Lanes → Colour → Lane
lane_in lanes Red = lanes.red
lane_in lanes Green = lanes.green
lane_in lanes Blue = lanes.blue

abbrev pub LanesIf : ℕ → ℕ → Plan → Option Lanes → Type 0
LanesIf g m plan found = IfSome found (λ lanes. (c : Colour) → LaneOf g m plan.cells (axis_in plan c) (lane_in lanes c))

-- ---- a cube of a plan

-- a plan of a 3D description
pub record Cuboid (plan : Plan) (table : List ℤ) : Type 0 where
  pub planned : Planned plan table
  pub three_d : plan.kind ≡ ThreeD

-- half the unit and its reciprocals, of numbers that are small enough
pub record Halved (cube : Cube) : Type 0 where
  pub half_is : cube.half ≡ cube.axis.unit / 2
  pub unit_is : cube.unit ≡ reciprocal_of cube.axis.unit
  pub wide_is : cube.wide ≡ wide_of cube.axis.unit
  pub least : 8_388_608 < cube.axis.unit
  pub room : cube.axis.full < 9_223_372_036_854_775_808
  pub fits : cube.times * cube.axis.full + cube.axis.unit < 9_223_372_036_854_775_808

-- the wide reciprocal divides p times the greatest sum
pub record Wide (cube : Cube) : Type 0 where
  pub halved : Halved cube
  pub exact : leb ((cube.times * cube.axis.full + cube.half + 1) * cube.axis.unit) two_to87 ≡ true

-- a cube of a plan, by parts of its axes
pub record Cubed (cube : Cube) (table : List ℤ) : Type 0 where
  pub plan : Plan
  pub planned : Planned plan table
  pub three_d : plan.kind ≡ ThreeD
  pub g : ℕ
  pub some : 0 < g
  pub lanes : (c : Colour) → LaneOf g (raw_m planned.depths) plan.cells (axis_in plan c) (lane_in cube.lanes c)
  pub parted : Parted g plan.red cube.axis
  pub across_is : cube.across ≡ cube.lanes.red.stride + cube.lanes.green.stride + cube.lanes.blue.stride
  pub times_is : cube.times ≡ plan.times
  pub most_is : cube.most ≡ corrected_m planned.depths
  pub wide : Wide cube

-- p is 1, and the shorter reciprocal divides the greatest sum
pub record Single (cube : Cube) : Type 0 where
  pub halved : Halved cube
  pub one : cube.times ≡ 1
  pub exact : leb ((cube.axis.full + cube.half) * excess cube.axis.unit) 18_446_744_073_709_551_615 ≡ true

abbrev pub NearOrFar : Cube → Option Way → Type 0
NearOrFar cube (Some (Near c)) = (c ≡ cube) × (Wide cube × Single cube)
NearOrFar cube (Some (Far c)) = (c ≡ cube) × Wide cube
NearOrFar cube None = Unit {0}

-- so that its sums are codes by one product
pub record Nearby (cube : Cube) : Type 0 where
  pub single : Single cube
  pub some : 0 < cube.axis.full
  pub in_terms : cube.axis.full ≡ cube.most * cube.axis.unit
  pub deepest : cube.most ≤ 65535

-- a cube of this description at these depths
pub record CubedFor (d : Description) (depths : Depths) (cube : Cube) (table : List ℤ) : Type 0 where
  pub cubed : Cubed cube table
  pub d_is : cubed.planned.d ≡ d
  pub depths_are : cubed.planned.depths ≡ depths

abbrev pub CubedIf : Description → Depths → List ℤ → Option Way → Type 0
CubedIf d depths table (Some (Near cube)) = CubedFor d depths cube table × Nearby cube
CubedIf d depths table (Some (Far cube)) = CubedFor d depths cube table
CubedIf d depths table None = Unit {0}

-- ---- a pixel

-- the start and the keys of a pixel by the lanes
pub record PixelAt (cube : Cube) (pixel : Codes) (spot : Spot) : Type 0 where
  pub start_is : spot.start ≡ offset_by cube.lanes.red pixel.red + offset_by cube.lanes.green pixel.green + offset_by cube.lanes.blue pixel.blue
  pub red_is : spot.red ≡ key_by cube.axis.den cube.lanes.red pixel.red
  pub green_is : spot.green ≡ key_by cube.axis.den cube.lanes.green pixel.green
  pub blue_is : spot.blue ≡ key_by cube.axis.den cube.lanes.blue pixel.blue

-- those of a pixel within the raw depth, by a cube of the table
pub record Placed (cube : Cube) (table : List ℤ) (spot : Spot) : Type 0 where
  pub cubed : Cubed cube table
  pub pixel : Codes
  pub inside : (c : Colour) → code_in pixel c ≤ raw_m cubed.planned.depths
  pub at : PixelAt cube pixel spot
