use Prim.Native.Nat.{ℕ, ◌+◌, ◌*◌, ◌/◌, ◌<◌}
use mathlib.Core.Path.{◌≡◌, refl, sym, ap, subst, ◌∙◌}
use mathlib.Core.List.{List}
use native.Mathlib.Nat as NatL
use native.Mathlib.Omega.{arith}
use lib.IntN.{ℤ}
use Rattle.whole.specs.Reciprocals.{reciprocal_of, wide_of}
use Rattle.rules.specs.Units.{raw_m, corrected_m}
use Rattle.rules.specs.declared.Colour.TheVariants.{Red}
use Rattle.rules.specs.declared.Depths.{Depths}
use Rattle.rules.specs.declared.Description.{Description}
use Rattle.colour.specs.Plans.{axis_in, Planned}
use Rattle.colour.specs.declared.plan.Plan.{Plan}
use Rattle.colour.proofs.Plans.{axis-fits}
use Rattle.lanes.specs.Cubes.{LaneOf, lane_in, Halved, Wide, Single, NearOrFar, Nearby, CubedFor, CubedIf}
use Rattle.lanes.specs.Parts.{Parted}
use Rattle.lanes.specs.declared.cube.Cube.{Cube}
use Rattle.std.specs.Prelude.{Option, Some, None}
use Rattle.lanes.specs.declared.cube.Way.{Way}
use Rattle.lanes.specs.declared.cube.Way.TheVariants.{Near, Far}
use Rattle.lanes.proofs.Parting.{unit_most}
use Rattle.lanes.proofs.Cubing.{den-narrow, parts-codable}
use Rattle.lanes.proofs.cube.cube_of.Goals as goal

-- The lanes are those of the plan in parts, and so is the red axis, whose unit has a wide reciprocal; what makes codes of them follows from the plan by Cubing.
-- ---- a cube of it
module _ {plan : Plan} {table : List ℤ} (p : Planned plan table) {g : ℕ} {cube : Cube} (some : 0 < g) (parted : Parted g plan.red cube.axis) where
  halved : cube.times ≡ plan.times → cube.half ≡ cube.axis.unit / 2 → cube.unit ≡ reciprocal_of cube.axis.unit → cube.wide ≡ wide_of cube.axis.unit
      → Halved cube
  halved t h u w =
      let whole = parts-codable p Red some parted in
      record {
        half_is = h;
        unit_is = u;
        wide_is = w;
        least = parted.least;
        room = omega (arith, parted.full_is, den-narrow p Red some parted);
        fits = subst (λ x. x * cube.axis.full + cube.axis.unit < 9_223_372_036_854_775_808) (sym t) (omega (arith, whole.fits));
      }

  -- where p is 1
  nearby : cube.times ≡ plan.times → cube.most ≡ corrected_m p.depths → Single cube → Nearby cube
  nearby t e single =
      let whole = parts-codable p Red some parted in
      record {
        single = single;
        some = whole.wide;
        in_terms = sym (NatL.one-mul cube.axis.full) ∙ ap (λ x. x * cube.axis.full) (sym single.one ∙ t) ∙ whole.in_terms ∙ ap (λ x. x * cube.axis.unit) (sym e);
        deepest = rw e p.corrected_most;
      }

  found : {d : Description} {depths : Depths} → (Wide cube → CubedFor d depths cube table) → cube.times ≡ plan.times → cube.most ≡ corrected_m p.depths
      → (r : Option Way) → NearOrFar cube r → CubedIf d depths table r
  found {d} {depths} q t e (Some (Near c)) h = subst (λ x. CubedFor d depths x table × Nearby x) (sym h.0) (q h.1.0, nearby t e h.1.1)
  found {d} {depths} q t e (Some (Far c)) h = subst (λ x. CubedFor d depths x table) (sym h.0) (q h.1)
  found q t e None h = tt

pub lanes_of-requires : goal.lanes_of-requires
lanes_of-requires c =
    let (table, known) = c.requires in
    record { m_value = (table, (known.0, c.greatest.ensures ∙ ap raw_m (sym known.1))); g_nonzero = c.common_parts-g.ensures }

pub parted-requires : goal.parted-requires
parted-requires c =
    let p = c.requires.1.0.planned in
    record { axis_fits = axis-fits p Red; g_nonzero = c.common_parts-g.ensures; unit_bound = unit_most p Red }

pub near_or_far-requires : goal.near_or_far-requires
near_or_far-requires c = halved c.requires.1.0.planned c.common_parts-g.ensures c.in_ok-axis.ensures refl refl c.of.ensures c.of-2.ensures

pub returns : goal.returns
returns c =
    let a = c.args in
    let g = c.common_parts-g.result in
    let lanes = c.in_ok-lanes.lanes in
    λ table p e.
    let most = c.greatest-2.ensures ∙ ap corrected_m (sym e) in
    found p.planned c.common_parts-g.ensures c.in_ok-axis.ensures
    (λ w. record {
      cubed =
          record {
            plan = a.plan;
            planned = p.planned;
            three_d = p.three_d;
            g = g;
            some = c.common_parts-g.ensures;
            lanes = λ k. subst (λ m. LaneOf g m a.plan.cells (axis_in a.plan k) (lane_in lanes k)) (c.greatest.ensures ∙ ap raw_m (sym e)) (c.in_ok-lanes.ensures k);
            parted = c.in_ok-axis.ensures;
            across_is = refl;
            times_is = refl;
            most_is = most;
            wide = w;
          };
      d_is = refl;
      depths_are = e;
    })
    refl most c.near_or_far.result c.near_or_far.ensures
