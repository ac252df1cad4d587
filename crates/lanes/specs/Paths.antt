-- The path of a pixel from its keys, and the sum over it.
use Rattle.std.specs.Prelude.{ℕ, ◌+◌, ◌-◌, ◌/◌, ◌%◌, ◌≤◌, ◌<◌, ◌≡◌, List, ℤ, pos, nat_abs, ◌+ℤ◌, ◌*ℤ◌, get_or}
use Rattle.rules.specs.Units.{colour_place}
use Rattle.rules.specs.Looking.Interpolation.{Order, 1st, 2nd, 3rd}
use Rattle.rules.specs.Looking.Readings.{Descends}
use Rattle.rules.specs.declared.Colour.{Colour}
use Rattle.rules.specs.declared.Colour.TheVariants.{Red, Green, Blue}
use Rattle.colour.specs.Limits.{den_limit}
use Rattle.colour.specs.Adding.{RowAt}
use Rattle.lanes.specs.declared.path.Corner.{Corner}
use Rattle.lanes.specs.declared.path.Path.{Path}

-- what a key holds
abbrev pub fraction_in : (Colour → ℕ) → Colour → ℕ
fraction_in keys c = keys c / 4_294_967_296

abbrev pub stride_in : (Colour → ℕ) → Colour → ℕ
stride_in keys c = keys c % 4_294_967_296

-- keys with fractions of den, from a start; the three strides lead across
pub record Keyed (den across start : ℕ) (keys : Colour → ℕ) : Type 0 where
  pub narrow : den ≤ den_limit
  pub part : (c : Colour) → fraction_in keys c ≤ den
  pub across_is : across ≡ stride_in keys Red + stride_in keys Green + stride_in keys Blue
  pub room : start + across < 9_223_372_036_854_775_808

pub record CornerIs (place weight : ℕ) (corner : Corner) : Type 0 where
  pub place_is : corner.place ≡ place
  pub weight_is : corner.weight.0 ≡ pos weight

-- four places from a start, by three strides in an order in which the fractions do not increase: weights D − f1, f1 − f2, f2 − f3, f3
pub record Climbs (start den : ℕ) (keys : Colour → ℕ) (path : Path) : Type 0 where
  pub order : Order
  pub descends : Descends (fraction_in keys) order
  pub first : CornerIs start (den - fraction_in keys (1st order)) path.first
  pub second : CornerIs (start + stride_in keys (1st order)) (fraction_in keys (1st order) - fraction_in keys (2nd order)) path.second
  pub third : CornerIs (start + stride_in keys (1st order) + stride_in keys (2nd order)) (fraction_in keys (2nd order) - fraction_in keys (3rd order)) path.third
  pub fourth :
      CornerIs (start + stride_in keys (1st order) + stride_in keys (2nd order) + stride_in keys (3rd order)) (fraction_in keys (3rd order)) path.fourth

-- ---- the sum

-- a row's number of a colour, by the place of its first
abbrev pub sample_from : List ℤ → ℕ → Colour → ℤ
sample_from table place c = get_or table (place + colour_place c) (pos 0)

abbrev pub weighed_at : List ℤ → Colour → Corner → ℤ
weighed_at table c corner = corner.weight.0 *ℤ sample_from table corner.place c

abbrev pub path_total : List ℤ → Colour → Path → ℤ
path_total table c path =
    weighed_at table c path.first
    +ℤ (weighed_at table c path.second +ℤ (weighed_at table c path.third +ℤ (weighed_at table c path.fourth +ℤ pos 0)))

-- rows of the table, and weights that come to no more than the largest D
pub record PathFits (table : List ℤ) (path : Path) : Type 0 where
  pub first : RowAt table path.first.place
  pub second : RowAt table path.second.place
  pub third : RowAt table path.third.place
  pub fourth : RowAt table path.fourth.place
  pub weights :
      nat_abs path.first.weight.0 + nat_abs path.second.weight.0 + nat_abs path.third.weight.0 + nat_abs path.fourth.weight.0 ≤ den_limit
