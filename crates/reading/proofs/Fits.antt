-- What the reader's state keeps, of the rules' state that it is seen as.
use Prim.Native.Nat.{ℕ}
use mathlib.Core.Path.{◌≡◌, refl, ◌∙◌}
use mathlib.Core.Bool.{true}
use native.Mathlib.Omega.{arith}
use Rattle.std.specs.Prelude.{Option, None, Some, is_some, unwrap_or}
use Rattle.std.specs.Option.{ForSome}
use Rattle.rules.specs.Units.{in_range}
use Rattle.rules.specs.Descriptions.{lowest, highest, every_colour, bounds_fit}
use Rattle.rules.specs.Reading.Judge.{given_or, no_size, describe, given, State as Given}
use Rattle.rules.specs.declared.Bounds.{Bounds}
use Rattle.rules.specs.declared.Size.{Size}
use Rattle.rules.proofs.Tests.{both-and}
use Rattle.rules.proofs.Sound.{within-bounds}
use Rattle.reading.specs.Within.{BoundsWithin}
use Rattle.reading.specs.View.{view, Fit, RowsWelcome, counting}
use Rattle.reading.specs.declared.state.State.{State}

within : (o : Option Bounds) (default : Bounds) → BoundsWithin default → ForSome o (λ b. BoundsWithin b) → BoundsWithin (given_or default o)
within None default d h = d
within (Some b) default d h = h b refl

sized : (o : Option Size) → ForSome o (λ s. in_range s.kind s.n ≡ true) → given o ≡ true → in_range (given_or no_size o).kind (given_or no_size o).n ≡ true
sized None h e = cc
sized (Some s) h e = h s refl

-- what is there is given
pub given-there : {A : Type 0} (o : Option A) → given o ≡ is_some o
given-there None = refl
given-there (Some a) = refl

-- or else the default is
pub given-default : {A : Type 0} (o : Option A) (default : A) → unwrap_or o default ≡ given_or default o
given-default None default = refl
given-default (Some a) default = refl

pub fit : (st : State) → Fit (view st)
fit st = record {
  lower_within = within st.lower lowest (omega arith, omega arith, omega arith) st.lower_within;
  upper_within = within st.upper highest (omega arith, omega arith, omega arith) st.upper_within;
  size_within = sized st.size st.size_within;
  after_size = λ h. given-there st.size ∙ st.after_size h;
  few = st.few;
}

module _ {st : Given} (f : Fit st) where
  pub fit-rows : (more : ℕ) → RowsWelcome st more → Fit (counting st more)
  fit-rows more w = record {
    lower_within = f.lower_within;
    upper_within = f.upper_within;
    size_within = f.size_within;
    after_size = w.sized_so;
    few = w.room;
  }

  -- its bounds are within ±10
  pub describe-fits : every_colour bounds_fit (describe st) ≡ true
  unfolding describe
  describe-fits =
      let lo = f.lower_within in
      let hi = f.upper_within in
      both-and _ _ (within-bounds _ lo.0 hi.0) (both-and _ _ (within-bounds _ lo.1 hi.1) (within-bounds _ lo.2 hi.2))
