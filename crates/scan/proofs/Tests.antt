-- A test that only the second part can fail.
use mathlib.Core.Path.{◌≡◌, refl}
use mathlib.Core.Bool.{Bool, true, false, ◌||◌}

pub or-false : (a : Bool) → a ≡ (a || false)
or-false true = refl
or-false false = refl
