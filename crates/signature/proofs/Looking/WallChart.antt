-- Document 02, Req 03: of the wall chart's six lines exactly one holds for any three fractions, it is the rule's, and so the path that look and picture take is
-- the rule's. The order is what it was before the chart.
use Prim.Native.Nat.{ℕ}
use mathlib.Core.Path.{◌≡◌, sym, ap, subst, ◌∙◌}
use mathlib.Core.List.{List}
use native.Mathlib.Omega.{arith}
use borrow.Author.Tests.{le-leb, lt-leb}
use lib.IntN.{ℤ}
use Rattle.rules.specs.Units.{raw_m}
use Rattle.rules.specs.Looking.Interpolation.{Order, rgb, rbg, grb, gbr, brg, bgr, chart, order, fraction_of, path_in, path, shares_for}
use Rattle.rules.specs.Looking.Readings.{ByRule}
use Rattle.rules.specs.Looking.{used}
use Rattle.rules.specs.Demands.{LookRight}
use Rattle.rules.specs.declared.Codes.{Codes}
use Rattle.rules.specs.declared.Colour.{Colour}
use Rattle.rules.specs.declared.Colour.TheVariants.{Red, Green, Blue}
use Rattle.rules.specs.declared.Depths.{Depths}
use Rattle.rules.specs.declared.Description.{Description}
use Rattle.rules.specs.declared.Kind.TheVariants.{ThreeD}
use Rattle.rules.specs.declared.Shares.{Shares}
use Rattle.rules.proofs.Looking.Chart.{Says, line-says, rule-line, line-order, order-line}
use Rattle.signature.specs.WallChart.{ExactlyOne, order_before}

-- ---- the order of three fractions

module _ (f : Colour → ℕ) where
  -- none is missed, and no two overlap
  pub exactly-one : ExactlyOne (chart (f Red) (f Green) (f Blue))
  exactly-one = record { one = order f; passes = order-line f; no_other = λ o h. sym (line-order f o h) }

  -- the rule allows one order, and that is the chart's
  pub rule-one : (o : Order) → ByRule f o → order f ≡ o
  rule-one o rule = line-order f o (rule-line f o rule)

  before-says : (o : Order) → Says f o → order_before f ≡ o
  unfolding order_before
  before-says rgb (p, q) = rw (le-leb (f Green) (f Red) p, le-leb (f Blue) (f Green) q)
  before-says rbg (p, q) = rw (le-leb (f Green) (f Red) (omega arith), lt-leb (f Blue) (f Green) q, le-leb (f Blue) (f Red) p)
  before-says grb (p, q) = rw (lt-leb (f Green) (f Red) p, le-leb (f Blue) (f Red) q)
  before-says gbr (p, q) = rw (lt-leb (f Green) (f Red) (omega arith), lt-leb (f Blue) (f Red) q, le-leb (f Blue) (f Green) p)
  before-says brg (p, q) = rw (le-leb (f Green) (f Red) q, lt-leb (f Blue) (f Green) (omega arith), lt-leb (f Blue) (f Red) p)
  before-says bgr (p, q) = rw (lt-leb (f Green) (f Red) q, lt-leb (f Blue) (f Red) (omega arith), lt-leb (f Blue) (f Green) p)

  -- the order is what it was
  pub order-as-before : order f ≡ order_before f
  order-as-before = sym (before-says (order f) (line-says f (order f) (order-line f)))

-- ---- the path of a pixel

module _ (d : Description) (m : ℕ) (pixel : Codes) where
  -- it is the rule's
  pub path-by-rule : (o : Order) → ByRule (fraction_of d m pixel) o → path d m pixel ≡ path_in d m pixel o
  unfolding path
  path-by-rule o rule = ap (path_in d m pixel) (rule-one (fraction_of d m pixel) o rule)

  -- and what it was
  pub path-as-before : path d m pixel ≡ path_in d m pixel (order_before (fraction_of d m pixel))
  unfolding path
  path-as-before = ap (path_in d m pixel) (order-as-before (fraction_of d m pixel))

-- so in an accepted look at a 3D table, and at each pixel of an accepted picture, the four rows and weights that make a colour's code are the rule's path
pub right-by-rule : (d : Description) (table : List ℤ) (depths : Depths) (pixel codes : Codes) (shares : Shares) (c : Colour)
    → LookRight d table depths pixel codes shares c → d.kind ≡ ThreeD → (o : Order) → ByRule (fraction_of d (raw_m depths) pixel) o
    → used ThreeD c shares ≡ path_in d (raw_m depths) pixel o
right-by-rule d table depths pixel codes shares c right e o rule =
    subst (λ k. used k c shares ≡ shares_for d (raw_m depths) pixel k c) e right.by_rule ∙ path-by-rule d (raw_m depths) pixel o rule
