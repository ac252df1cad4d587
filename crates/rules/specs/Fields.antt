-- A line of text: fields with one byte between them, and a newline.
use Rattle.std.specs.Prelude.{ℕ, List, [], ◌∷◌, ◌++◌}

unfoldable pub parted : ℕ → List (List ℕ) → List ℕ
parted between [] = 10 ∷ []
parted between (f ∷ []) = f ++ (10 ∷ [])
parted between (f ∷ g ∷ more) = f ++ (between ∷ parted between (g ∷ more))
