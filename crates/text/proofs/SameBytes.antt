-- The test of two slices byte for byte is the rules' own.
use Prim.Native.Nat.{ℕ}
use mathlib.Core.Path.{◌≡◌, refl, ap}
use mathlib.Core.Bool.{◌&&◌}
use mathlib.Core.List.{List, [], ◌∷◌}
use lib.Dec.{eqb}
use lib.Pointwise.{pointwise}
use Rattle.rules.specs.Reading.Lines.{same}

pub bytewise : (a b : List ℕ) → pointwise eqb a b ≡ same a b
unfolding same
bytewise [] [] = refl
bytewise [] (y ∷ ys) = refl
bytewise (x ∷ xs) [] = refl
bytewise (x ∷ xs) (y ∷ ys) = ap (λ t. eqb x y && t) (bytewise xs ys)
