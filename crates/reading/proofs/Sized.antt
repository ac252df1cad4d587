-- Where 9 to 13 and 19 found no fault there is a size, and in range: at the first data line it was asked for, and a row counted before shows it.
use Prim.Native.Nat.{ℕ}
use mathlib.Core.Path.{◌≡◌, refl}
use mathlib.Core.Bool.{Bool, true, false, cond}
use native.Mathlib.Omega.{arith}
use borrow.Author.Tests.{eqb-false}
use lib.Dec.{eqb}
use Rattle.rules.specs.Units.{in_range, rows_of}
use Rattle.rules.specs.Descriptions.{rows}
use Rattle.rules.specs.Reading.Judge.{describe, given, given_fault, head_fault, State}
use Rattle.rules.proofs.Tests.{need-none}
use Rattle.reading.specs.View.{Fit, size_of}
use Rattle.std.specs.Prelude.{None}

module _ {st : State} (f : Fit st) where
  pub head-sized : (places : ℕ) → head_fault places st ≡ None → given st.size ≡ true
  unfolding head_fault given_fault
  head-sized places h = by (eqb st.rows 0) refl h
    where
      by : (b : Bool) → eqb st.rows 0 ≡ b → cond b (given_fault places st) None ≡ None → given st.size ≡ true
      by true e g = (need-none _ _ _ g).0
      by false e g = f.after_size (omega (arith, eqb-false st.rows 0 e))

  pub head-in-range : (places : ℕ) → head_fault places st ≡ None → in_range (size_of st).kind (size_of st).n ≡ true
  head-in-range places h = f.size_within (head-sized places h)

-- the rows described are the size's
pub rows-described : (st : State) → rows (describe st) ≡ rows_of (size_of st).kind (size_of st).n
unfolding describe
rows-described st = refl
