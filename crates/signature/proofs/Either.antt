-- Laws of tests that several theorems use.
use Prim.Native.Nat.{ℕ, zero, suc, ◌<◌}
use mathlib.Core.Path.{◌≡◌, refl}
use mathlib.Core.Bool.{Bool, true, false, cond, ◌&&◌, true≢false}
use mathlib.Core.Logic.{inl, inr}
use mathlib.Core.List.{List, [], ◌∷◌}
use native.Mathlib.Omega.{arith}
use lib.ListN.{length, get_or}
use Rattle.rules.specs.Reading.Lines.{every}
use Rattle.rules.proofs.Tests.{and-fails}

-- what holds of both arms of a test holds of what it gives
pub either : {A : Type 0} (P : A → Type 0) (t : Bool) (a b : A) → P a → P b → P (cond t a b)
either P true a b p q = p
either P false a b p q = q

module _ (kind : ℕ → Bool) where
  -- numbers that are not all of a kind: one of them, at some place, is not
  pub some-fails : (l : List ℕ) → every kind l ≡ false → (k : ℕ) × (k < length l) × (kind (get_or l k 0) ≡ false)
  unfolding every
  some-fails [] e = absurd (true≢false e)
  some-fails (b ∷ l) e = by (kind b) refl e (some-fails l)
    where
      by : (t : Bool) → kind b ≡ t → t && every kind l ≡ false → (every kind l ≡ false → (k : ℕ) × (k < length l) × (kind (get_or l k 0) ≡ false))
          → (k : ℕ) × (k < length (b ∷ l)) × (kind (get_or (b ∷ l) k 0) ≡ false)
      by false p e later = (0, omega arith, p)
      by true p e later = let (k, inside, fails) = later e in (suc k, omega arith, fails)

  -- and back
  pub fails-some : (l : List ℕ) (k : ℕ) → k < length l → kind (get_or l k 0) ≡ false → every kind l ≡ false
  unfolding every
  fails-some [] k h e = absurd (omega arith)
  fails-some (b ∷ l) zero h e = and-fails (kind b) _ (inr e)
  fails-some (b ∷ l) (suc k) h e = and-fails (kind b) _ (inl (fails-some l k (omega arith) e))
