-- What a maxval says of the codes: the depth whose greatest code it is, and one or two bytes for each code.
use Rattle.std.specs.Prelude.{ℕ, ◌≡◌, ltb, Option, Some, None}
use Rattle.rules.specs.Units.{depth_of, depth_with}
use Rattle.ppm.specs.declared.depth.Scale.{Scale}
use Rattle.rules.specs.declared.Depth.{Depth}

abbrev pub scale_by : Option Depth → Option Scale
scale_by (Some d) = Some (record { depth = d; wide = ltb 255 d.greatest })
scale_by None = None

abbrev pub scale_of : ℕ → Option Scale
scale_of maxval = scale_by (depth_with maxval)

-- a scale fits a maxval: its depth is known and has maxval as greatest code, and above 255 a code is two bytes
pub record ScaleFits (maxval : ℕ) (s : Scale) : Type 0 where
  pub depth : depth_of s.depth.bits ≡ Some s.depth
  pub greatest : s.depth.greatest ≡ maxval
  pub wide : s.wide ≡ ltb 255 maxval
