-- The scale that is found fits its maxval, since the depth that is found by its greatest code is the depth of its bits.
use Prim.Native.Nat.{ℕ}
use mathlib.Core.Path.{◌≡◌, refl, ap, subst}
use lib.Dec.{ltb}
use Rattle.std.specs.Prelude.{Option, Some, None}
use Rattle.rules.specs.Units.{depth_with}
use Rattle.rules.proofs.KnownDepths.{depth-with}
use Rattle.ppm.specs.Scales.{scale_by, scale_of, ScaleFits}
use Rattle.ppm.specs.declared.depth.Scale.{Scale}
use Rattle.rules.specs.declared.Depth.{Depth}

-- what is found of a maxval
abbrev Found : ℕ → Option Scale → Type 0
Found maxval (Some s) = ScaleFits maxval s
Found maxval None = Unit {0}

module _ (maxval : ℕ) where
  by-depth : (x : Option Depth) → depth_with maxval ≡ x → Found maxval (scale_by x)
  by-depth (Some d) e = let k = depth-with maxval d e in record { depth = k.1; greatest = k.0; wide = ap (ltb 255) k.0 }
  by-depth None e = tt

  -- a scale that is found fits
  pub scale-fits : (s : Scale) → scale_of maxval ≡ Some s → ScaleFits maxval s
  scale-fits s e = subst (Found maxval) e (by-depth (depth_with maxval) refl)
