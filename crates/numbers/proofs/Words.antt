-- A word's first byte and its sign, by places and lengths.
use Prim.Native.Nat.{ℕ, suc, ◌≤◌}
use mathlib.Core.Path.{◌≡◌, refl}
use mathlib.Core.Bool.{Bool, true, false, cond, ◌||◌}
use mathlib.Core.List.{List, [], ◌∷◌}
use native.Mathlib.Omega.{arith}
use lib.Dec.{eqb}
use lib.ListN.{length, drop}
use mir.Val.{bool_byte}
use Rattle.std.specs.Prelude.{Some, slice_get}
use Rattle.std.specs.Option.{option_eq}
use Rattle.rules.specs.Reading.Lines.{minus_byte, plus_byte, starts}
use Rattle.rules.specs.Reading.Numbers.{unsigned}

-- ---- the first byte

-- a byte that stands first is the first
pub first-is : (w : List ℕ) (b : ℕ) → option_eq eqb (slice_get w 0) (Some b) ≡ starts (λ c. eqb c b) w
unfolding starts
first-is [] b = refl
first-is (c ∷ rest) b = refl

module _ (kind : ℕ → Bool) where
  -- a byte that stands first takes a place
  pub starts-room : (w : List ℕ) → bool_byte (starts kind w) ≤ length w
  unfolding starts
  starts-room [] = omega arith
  starts-room (b ∷ rest) = by (kind b)
    where
      by : (t : Bool) → bool_byte t ≤ suc (length rest)
      by true = omega arith
      by false = omega arith

-- as many bytes as a sign has, where + or - stands first or neither
pub sign-skipped : (w : List ℕ) (sign : Bool) → sign ≡ (starts plus_byte w || starts minus_byte w) → (drop (bool_byte sign) w ≡ unsigned w) × (bool_byte sign ≤ length w)
unfolding starts unsigned
sign-skipped [] sign e = rw e (refl, omega arith)
sign-skipped (b ∷ rest) sign e = rw e (by (plus_byte b || minus_byte b))
  where
    by : (t : Bool) → (drop (bool_byte t) (b ∷ rest) ≡ cond t rest (b ∷ rest)) × (bool_byte t ≤ suc (length rest))
    by true = (refl, omega arith)
    by false = (refl, omega arith)
