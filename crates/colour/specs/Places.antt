-- The place of a code on an axis, and the rows and weights of a pixel by its plan.
use Rattle.std.specs.Prelude.{ℕ, ◌+◌, ◌-◌, ◌*◌, ◌/◌, ◌≤◌, ◌<◌, min, List, [], ◌∷◌, ◌++◌, pos, nat_abs, ◌-ℤ◌}
use Rattle.whole.specs.Integers.{up}
use Rattle.rules.specs.Units.{row_limit}
use Rattle.rules.specs.Looking.Interpolation.{pair_by, 1st, 2nd, 3rd, order, climb}
use Rattle.rules.specs.Looking.{six}
use Rattle.rules.specs.declared.Codes.{Codes}
use Rattle.rules.specs.declared.Colour.{Colour}
use Rattle.rules.specs.declared.Colour.TheVariants.{Red, Green, Blue}
use Rattle.rules.specs.declared.Kind.{Kind}
use Rattle.rules.specs.declared.Kind.TheVariants.{OneD, ThreeD}
use Rattle.rules.specs.declared.Share.{Share}
use Rattle.rules.specs.declared.Shares.{Shares}
use Rattle.colour.specs.Limits.{each_limit, low_limit, den_limit}
use Rattle.colour.specs.declared.place.Place.{Place}
use Rattle.colour.specs.declared.plan.Axis.{Axis}
use Rattle.colour.specs.declared.plan.Plan.{Plan}
use Rattle.colour.specs.declared.shares.Pair.{Pair}
use Rattle.colour.specs.declared.shares.Step.{Step}
use Rattle.colour.specs.declared.shares.Steps.{Steps}

-- ---- one colour's code

-- how great the numbers of an axis are
pub record AxisFits (axis : Axis) : Type 0 where
  pub each : axis.each ≤ each_limit
  pub low : nat_abs axis.low.0 ≤ low_limit
  pub wide : 0 < axis.den
  pub most : axis.den ≤ den_limit

-- N from 2 to 65536
pub record CellsFit (cells : ℕ) : Type 0 where
  pub some : 0 < cells
  pub most : cells ≤ 65535

-- a, p, i and f of the rule, with D, N − 1 and the parts of the span as the plan keeps them
unfoldable pub place_of : Axis → ℕ → ℕ → Place
place_of axis cells c =
    let p = min axis.den (up (pos (axis.each * c) -ℤ axis.low.0)) * cells in
    let i = min (p / axis.den) (cells - 1) in
    record { index = i; fraction = p - i * axis.den }

-- ---- 1D

abbrev pub of_pair : Pair → List Share
of_pair p = p.low ∷ p.high ∷ []

unfoldable pub pair_of : Axis → ℕ → ℕ → List Share
pair_of axis cells c = let q = place_of axis cells c in pair_by axis.den q.index q.fraction

-- ---- 3D

abbrev pub three : ℕ → ℕ → ℕ → Colour → ℕ
three r g b Red = r
three r g b Green = g
three r g b Blue = b

-- the four rows from a start, with a step along each axis, in the order of the fractions
unfoldable pub along : ℕ → ℕ → (Colour → ℕ) → (Colour → ℕ) → List Share
along start den f s = let o = order f in climb start den (f (1st o)) (f (2nd o)) (f (3rd o)) (s (1st o)) (s (2nd o)) (s (3rd o))

unfoldable pub step_of : Axis → ℕ → ℕ → Step
step_of axis cells c = let q = place_of axis cells c in record { index = q.index; fraction = q.fraction; stride = axis.stride }

unfoldable pub steps_of : Plan → Codes → Steps
steps_of plan pixel = record {
  den = plan.red.den;
  red = step_of plan.red plan.cells pixel.red;
  green = step_of plan.green plan.cells pixel.green;
  blue = step_of plan.blue plan.cells pixel.blue;
}

-- the row of the three i: along red each row is the next
abbrev pub start_of : Steps → ℕ
start_of s = s.red.index + s.green.stride * s.green.index + s.blue.stride * s.blue.index

-- steps that end at a row of the table, with fractions of D
pub record StepsFit (s : Steps) : Type 0 where
  pub end : start_of s + s.red.stride + s.green.stride + s.blue.stride ≤ row_limit
  pub most : s.den ≤ den_limit
  pub red : s.red.fraction ≤ s.den
  pub green : s.green.fraction ≤ s.den
  pub blue : s.blue.fraction ≤ s.den

unfoldable pub path_by_steps : Steps → List Share
path_by_steps s =
    along (start_of s) s.den
    (three s.red.fraction s.green.fraction s.blue.fraction)
    (three s.red.stride s.green.stride s.blue.stride)

-- ---- the six rows and weights

unfoldable pub shown_by : Plan → Codes → Kind → Shares
shown_by plan pixel OneD =
    six
    (pair_of plan.red plan.cells pixel.red
    ++ (pair_of plan.green plan.cells pixel.green
    ++ pair_of plan.blue plan.cells pixel.blue))
shown_by plan pixel ThreeD = six (path_by_steps (steps_of plan pixel))
