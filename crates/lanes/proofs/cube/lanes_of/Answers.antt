use Prim.Native.Nat.{◌<◌}
use mathlib.Core.Path.{sym, subst}
use Rattle.rules.specs.declared.Colour.TheVariants.{Red, Green, Blue}
use Rattle.colour.specs.Plans.{axis_in}
use Rattle.colour.proofs.Plans.{axis-fits, cells_fit}
use Rattle.colour.proofs.Totals.{each-colour}
use mathlib.Core.Path.{◌≡◌}
use Prim.Native.Nat.{ℕ}
use lib.IntN.{ℤ}
use mathlib.Core.List.{List}
use Rattle.rules.specs.Units.{raw_m}
use Rattle.colour.specs.declared.plan.Plan.{Plan}
use Rattle.lanes.specs.Cubes.{Cuboid, LaneOf, lane_in}
use Rattle.lanes.specs.declared.cube.Lanes.{Lanes}
use Rattle.lanes.proofs.Parting.{stride_most, unit_most}
use Rattle.lanes.proofs.cube.lanes_of.Goals as goal

-- What a plan of a 3D description that could have been read has of each colour: so each lane that is found is that of its axis.
-- what is asked for a colour's lane
deep : {plan : Plan} {table : List ℤ} {m : ℕ} (p : Cuboid plan table) → m ≡ raw_m p.planned.depths → 0 < m
deep p e = subst (λ m. 0 < m) (sym e) p.planned.deep

pub lane_in-requires : goal.lane_in-requires
lane_in-requires c =
    let p = c.requires.m_value.1.0 in
    record {
      axis_fits = axis-fits p.planned Red;
      stride_bound = stride_most p Red;
      g_nonzero = c.requires.g_nonzero;
      m_nonzero = deep p c.requires.m_value.1.1;
      cells_fit = cells_fit p.planned;
      unit_bound = unit_most p.planned Red;
    }

pub lane_in-requires-2 : goal.lane_in-requires-2
lane_in-requires-2 c =
    let p = c.requires.m_value.1.0 in
    record {
      axis_fits = axis-fits p.planned Green;
      stride_bound = stride_most p Green;
      g_nonzero = c.requires.g_nonzero;
      m_nonzero = deep p c.requires.m_value.1.1;
      cells_fit = cells_fit p.planned;
      unit_bound = unit_most p.planned Green;
    }

pub lane_in-requires-3 : goal.lane_in-requires-3
lane_in-requires-3 c =
    let p = c.requires.m_value.1.0 in
    record {
      axis_fits = axis-fits p.planned Blue;
      stride_bound = stride_most p Blue;
      g_nonzero = c.requires.g_nonzero;
      m_nonzero = deep p c.requires.m_value.1.1;
      cells_fit = cells_fit p.planned;
      unit_bound = unit_most p.planned Blue;
    }

pub returns : goal.returns
returns c =
    let a = c.args in
    let lanes : Lanes = record { red = c.in_ok-red.red; green = c.in_ok-green.green; blue = c.in_ok-blue.blue } in
    each-colour (λ k. LaneOf a.g a.m a.plan.cells (axis_in a.plan k) (lane_in lanes k))
    c.in_ok-red.ensures
    c.in_ok-green.ensures
    c.in_ok-blue.ensures
