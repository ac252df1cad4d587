-- The reader's state as the rules' state, what that keeps, and what it may take in.
use Rattle.std.specs.Prelude.{ℕ, ◌+◌, ◌-◌, ◌≤◌, ◌<◌, ◌≡◌, true, cond, eqb}
use Rattle.rules.specs.Units.{in_range, row_limit, rows_of}
use Rattle.rules.specs.Descriptions.{lowest, highest}
use Rattle.rules.specs.Reading.Judge.{given, given_or, no_size, State as Given}
use Rattle.rules.specs.declared.Item.{Item}
use Rattle.rules.specs.declared.Item.TheVariants.{Nothing, OfTitle, OfLower, OfUpper, OfSize, OfRow}
use Rattle.rules.specs.declared.Size.{Size}
use Rattle.reading.specs.Within.{BoundsWithin}
use Rattle.reading.specs.declared.state.State.{State}

abbrev pub view : State → Given
view st = record {
  title = st.title;
  lower = st.lower;
  upper = st.upper;
  size = st.size;
  rows = st.rows;
}

-- the size given, or else no size
abbrev pub size_of : Given → Size
size_of st = given_or no_size st.size

-- what is given is within its limits, and rows are counted only where there is a size
pub record Fit (st : Given) : Type 0 where
  pub lower_within : BoundsWithin (given_or lowest st.lower)
  pub upper_within : BoundsWithin (given_or highest st.upper)
  pub size_within : given st.size ≡ true → in_range (size_of st).kind (size_of st).n ≡ true
  pub after_size : 0 < st.rows → given st.size ≡ true
  pub few : st.rows ≤ row_limit

-- how many rows may still come, once a first one was there; before that none are counted
abbrev pub left : Given → ℕ
left st = cond (eqb st.rows 0) 0 (rows_of (size_of st).kind (size_of st).n - st.rows)

-- so many data lines more, and all else as it was
abbrev pub counting : Given → ℕ → Given
counting st more = record { title = st.title; lower = st.lower; upper = st.upper; size = st.size; rows = st.rows + more }

-- so many rows more may be counted: there is a size, and room for them
pub record RowsWelcome (st : Given) (more : ℕ) : Type 0 where
  pub sized_so : 0 < st.rows + more → given st.size ≡ true
  pub room : st.rows + more ≤ row_limit

-- an item that the state can take in: within the limits, and a row only where one may be counted
abbrev pub Welcome : Given → Item → Type 0
Welcome st Nothing = Unit {0}
Welcome st (OfTitle t) = Unit {0}
Welcome st (OfLower b) = BoundsWithin b
Welcome st (OfUpper b) = BoundsWithin b
Welcome st (OfSize s) = in_range s.kind s.n ≡ true
Welcome st (OfRow r) = RowsWelcome st 1
