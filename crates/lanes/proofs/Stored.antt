-- Memory that is filled from its first place on, each place by a function of the place: what is filled stays, and one store more fills the next.
use Prim.Native.Nat.{ℕ, ◌+◌, ◌<◌}
use mathlib.Core.Path.{◌≡◌, refl, ◌∙◌}
use mathlib.Core.List.{List}
use native.Mathlib.Omega.{arith}
use borrow.Author.Count.{below_more}
use lib.ListN.{length, get_or, set, length-set}
use lib.Seq.{get_or-set_same, get_or-set_other}

-- the first j places of memory that has n are filled; z stands for what is not there
pub record Stored {X : Type 0} (z : X) (f : ℕ → X) (n j : ℕ) (xs : List X) : Type 0 where
  pub long : length xs ≡ n
  pub are : (k : ℕ) → k < j → get_or xs k z ≡ f k

module _ {X : Type 0} {z : X} where
  pub none-stored : (f : ℕ → X) (xs : List X) → Stored z f (length xs) 0 xs
  none-stored f xs = record { long = refl; are = λ k h. absurd (omega arith) }

  pub one-stored : {f : ℕ → X} {n j : ℕ} {xs : List X} {x : X} → Stored z f n j xs → j < n → x ≡ f j → Stored z f n (j + 1) (set xs j x)
  one-stored {f} {n} {j} {xs} {x} s h e =
      record {
        long = length-set xs j x ∙ s.long;
        are = below_more (λ k. get_or (set xs j x) k z ≡ f k) j (λ k l. get_or-set_other xs j k x z (λ q. omega (arith, q)) ∙ s.are k l) (get_or-set_same xs j x z (omega (arith, s.long)) ∙ e);
      }
