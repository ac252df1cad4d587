-- A number that is too great for the option stands for a maxval that is no depth's, so it is refused as any such number is.
use Prim.Native.Nat.{ℕ}
use mathlib.Core.Path.{◌≡◌, refl}
use Rattle.ppm.specs.Scales.{scale_of}
use Rattle.std.specs.Prelude.{None, Err}
use Rattle.desk.specs.declared.arguments.Unfit.TheVariants.{TooGreat}
use Rattle.correct.specs.Jobs.{maxval_wanted}

pub too-great-unknown : (picture : ℕ) → scale_of (maxval_wanted (Err TooGreat) picture) ≡ None
too-great-unknown picture = refl
