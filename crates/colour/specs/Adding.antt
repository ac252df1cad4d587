-- Sums of weight times sample, as rows are added to them one by one.
use Rattle.std.specs.Prelude.{ℕ, ◌+◌, ◌*◌, ◌≤◌, ◌<◌, ◌≡◌, List, [], ◌∷◌, ℤ, pos, nat_abs, ◌+ℤ◌, ◌*ℤ◌, length, get_or}
use Rattle.whole.specs.Reciprocals.{divisor_of}
use Rattle.rules.specs.Units.{sample_limit, colour_place, sample_at}
use Rattle.rules.specs.Looking.Interpolation.{total, denominator}
use Rattle.rules.specs.Demands.{Each}
use Rattle.rules.specs.declared.Colour.{Colour}
use Rattle.rules.specs.declared.Colour.TheVariants.{Red, Green, Blue}
use Rattle.rules.specs.declared.Share.{Share}
use Rattle.colour.specs.Limits.{den_limit, sum_limit}
use Rattle.colour.specs.Plans.{axis_in}
use Rattle.colour.specs.declared.plan.Axis.{Axis}
use Rattle.colour.specs.declared.plan.Plan.{Plan}
use Rattle.colour.specs.declared.sums.Sums.{Sums}

-- ---- one term more

-- the three samples of a row stand at this place
pub record RowAt (xs : List ℤ) (at : ℕ) : Type 0 where
  pub inside : at + 3 ≤ length xs
  pub small : (c : Colour) → nat_abs (get_or xs (at + colour_place c) (pos 0)) ≤ sample_limit

-- the part of the table that starts at a row
pub record Starts (table : List ℤ) (row : ℕ) (part : List ℤ) : Type 0 where
  pub row_at : RowAt part 0
  pub number : (c : Colour) → sample_at part 0 c ≡ sample_at table row c

-- the sum has room for a row of this weight
pub record Room (before weight : ℤ) : Type 0 where
  pub room : nat_abs before + nat_abs weight * sample_limit ≤ sum_limit

-- the sample is weighed and added in front
pub record Added (sample weight before after : ℤ) : Type 0 where
  pub is : after ≡ weight *ℤ sample +ℤ before
  pub within : nat_abs after ≤ nat_abs before + nat_abs weight * sample_limit

-- ---- all of them

abbrev pub sum_in : Sums → Colour → ℤ
sum_in s Red = s.red.0
sum_in s Green = s.green.0
sum_in s Blue = s.blue.0

abbrev pub carried : List Share → ℕ
carried [] = 0
carried (s ∷ ss) = nat_abs s.weight + carried ss

-- shares of rows that stand in the table, whose weights come to no more than the largest D
pub record SharesFit (table : List ℤ) (ss : List Share) : Type 0 where
  pub rows : Each (λ s. RowAt table (3 * s.row)) ss
  pub weights : carried ss ≤ den_limit

-- z is the S of these shares
pub record Totalled (table : List ℤ) (c : Colour) (ss : List Share) (z : ℤ) : Type 0 where
  pub is : z ≡ total table c ss
  pub within : nat_abs z ≤ carried ss * sample_limit

-- ---- and divided

-- an axis by which p·S over its unit, S moved into 0 to D·10,000,000, is m·S over D·10,000,000, for codes up to m
pub record Codable (p : ℕ) (axis : Axis) (m : ℕ) : Type 0 where
  pub full : axis.full ≡ denominator axis.den
  pub wide : 0 < axis.full
  pub in_terms : p * axis.full ≡ m * axis.unit
  pub divisor : axis.divisor ≡ divisor_of (2 * axis.unit)
  -- what is divided and what it is divided by are as a reciprocal asks for
  pub fits : 2 * (p * axis.full) + axis.unit < 4_611_686_018_427_387_904
  pub least : 8_388_608 ≤ axis.unit
  pub deepest : m ≤ 65535

-- each axis of a plan
abbrev pub Coded : Plan → ℕ → Type 0
Coded plan m = (c : Colour) → Codable plan.times (axis_in plan c) m
