-- The header in its plainest form: P6 on a line, width and height on the next with a space between them, and maxval on the third.
use Rattle.std.specs.Prelude.{ℕ, List, [], ◌∷◌, ◌++◌}
use Rattle.rules.specs.Decimals.{decimal}

unfoldable pub header_text : ℕ → ℕ → ℕ → List ℕ
header_text width height maxval = (80 ∷ 54 ∷ 10 ∷ []) ++ (decimal width ++ (32 ∷ (decimal height ++ (10 ∷ (decimal maxval ++ (10 ∷ []))))))
