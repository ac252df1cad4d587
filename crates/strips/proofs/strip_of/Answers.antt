use Prim.Native.Nat.{ℕ, ◌+◌, ◌*◌, ◌/◌, ◌≤◌, ◌<◌}
use mathlib.Core.Path.{◌≡◌, refl, sym, ap, subst, ◌∙◌}
use mathlib.Core.List.{List}
use native.Mathlib.Nat as NatL
use native.Mathlib.Omega.{arith}
use lib.Dec.{leb}
use lib.IntN.{ℤ}
use Rattle.whole.specs.Reciprocals.{excess}
use Rattle.rules.specs.Units.{corrected_m}
use Rattle.colour.specs.Adding.{Codable}
use Rattle.colour.specs.Limits.{den_limit}
use Rattle.colour.specs.Lines.{Lined}
use Rattle.colour.specs.Plans.{axis_in}
use Rattle.colour.specs.declared.lines.Line.{Line}
use Rattle.colour.specs.declared.plan.Axis.{Axis}
use Rattle.colour.proofs.Lining.{line-fits, line-codable}
use Rattle.lanes.specs.Lanes.{RunsAlong}
use Rattle.lanes.specs.Parts.{Parted}
use Rattle.lanes.proofs.Parting.{each-parts-most, low-parts-most, den-parts-some}
use Rattle.lanes.proofs.Cubing.{den-narrow, parts-codable}
use Rattle.strips.proofs.strip_of.Goals as goal

-- A line's axis is that of its colour in the plan, so that in parts it makes the same codes; where p is 1, D·10,000,000 is M units of it.
-- ---- the axis of a line in parts
module _ {line : Line} {table : List ℤ} (l : Lined line table) {g : ℕ} {parts : Axis} (some : 0 < g) (parted : Parted g line.axis parts) where
  abbrev m : ℕ
  m = corrected_m l.planned.depths

  -- it is that of its colour in the plan
  of-colour : Parted g (axis_in l.plan line.colour) parts
  of-colour = subst (λ x. Parted g x.axis parts) l.is parted

  coded : Codable line.times parts m
  coded = subst (λ x. Codable x.times parts m) (sym l.is) (parts-codable l.planned line.colour some of-colour)

  in_terms : line.times ≡ 1 → parts.full ≡ m * parts.unit
  in_terms once = sym (NatL.one-mul parts.full) ∙ ap (λ x. x * parts.full) (sym once) ∙ coded.in_terms

  -- ---- D times the cells

  den-most : parts.den * line.cells ≤ den_limit * 65535
  den-most = NatL.mul-le-mul (den-narrow l.planned line.colour some of-colour) (line-fits l).1.most

  -- ---- D·10,000,000 and half the unit

  top-fits : parts.full + parts.unit / 2 < 18_446_744_073_709_551_616
  top-fits = omega (arith, parted.full_is, den-narrow l.planned line.colour some of-colour, coded.fits)

-- ---- what is found
pub parted-requires : goal.parted-requires
parted-requires c =
    let l = c.requires.1.lined in
    record { axis_fits = (line-fits l).0; g_nonzero = c.common_in.ensures; unit_bound = omega (arith, (line-codable l).fits) }

pub lane_along-requires : goal.lane_along-requires
lane_along-requires c =
    let l = c.requires.1.lined in
    let parted = c.in_ok-parts.ensures in
    let some = c.common_in.ensures in
    let fits = (line-fits l).0 in
    record {
      m_nonzero = subst (λ x. 0 < x) (sym (c.greatest.ensures ∙ c.requires.1.raw_is)) l.planned.deep;
      cells_bound = (line-fits l).1.most;
      den_nonzero = den-parts-some some parted fits.wide;
      each_le_each_limit = NatL.le_trans (each-parts-most some parted) fits.each;
      low_bound = NatL.le_trans (low-parts-most some parted) fits.low;
    }

pub returns : goal.returns
returns c =
    let parts = c.in_ok-parts.parts in
    let parted = c.in_ok-parts.ensures in
    let some = c.common_in.ensures in
    λ table l. record {
      stripped =
          record {
            line = c.args.line;
            lined = l.lined;
            colour_is = refl;
            cells_are = refl;
            g = c.common_in.result;
            some = some;
            parted = parted;
            runs = subst (λ x. RunsAlong x _ _ _ _ _) (c.greatest.ensures ∙ l.raw_is) c.in_ok-lane.ensures.0;
            few = c.if-cells-gt-MOST_CELLS.false;
            small = c.if-parts-cells-gt-MOST_PARTS.false;
            in_terms = in_terms l.lined some parted c.if-line-ne1.false ∙ ap (λ x. x * parts.unit) (sym (c.greatest-2.ensures ∙ l.most_is));
            half_is = refl;
            top_is = refl;
            unit_is = c.of-unit.ensures;
            -- the reciprocal of the unit divides all that has another code than M
            exact =
                ap (λ k. leb ((parts.full + parts.unit / 2) * excess k) 18_446_744_073_709_551_615) (sym (ap (λ x. x.by) c.of-unit.ensures))
                ∙ sym c.divides.ensures
                ∙ c.if-not-divides.false;
            most_is = c.greatest-2.ensures ∙ l.most_is;
          };
      d_is = refl;
      depths_are = refl;
      colour_is = refl;
    }
