-- A sign stands before a number below 0 alone: by the test on its 64 bits.
use mathlib.Core.Path.{◌≡◌, refl}
use mathlib.Core.Bool.{true, false, true≢false}
use mathlib.Core.List.{[], ◌∷◌}
use mir.Syntax.{w64}
use mir.Val.{to_z, of_z, SFits}
use mir.ValLaws.{to_z-of_z}
use native.Mathlib.Omega.{arith}
use borrow.Author.Tests.{ltb-true}
use lib.IntN.{ℤ, pos, negsuc}
use lib.Signed.{lt_z}
use Rattle.rules.specs.Decimals.{sign}

below-0 : (z : ℤ) → lt_z z (pos 0) ≡ true → sign z ≡ 45 ∷ []
unfolding sign
below-0 (pos n) e = absurd (omega (arith, ltb-true n 0 e))
below-0 (negsuc n) e = refl

not-below-0 : (z : ℤ) → lt_z z (pos 0) ≡ false → sign z ≡ []
unfolding sign
not-below-0 (pos n) e = refl
not-below-0 (negsuc n) e = absurd (true≢false e)

module _ (z : ℤ) (fits : SFits w64 z) where
  pub sign_below : lt_z (to_z w64 (of_z w64 z)) (pos 0) ≡ true → sign z ≡ 45 ∷ []
  sign_below e = below-0 z (rw (to_z-of_z w64 z fits) at e)

  pub sign-other : lt_z (to_z w64 (of_z w64 z)) (pos 0) ≡ false → sign z ≡ []
  sign-other e = not-below-0 z (rw (to_z-of_z w64 z fits) at e)
