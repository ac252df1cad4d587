-- The name beside OUT's that the output has until it is whole: OUT's own, with .part- and two digits behind it.
use Rattle.std.specs.Prelude.{ℕ, ◌/◌, ◌%◌, List, [], ◌∷◌, ◌++◌}
use Rattle.rules.specs.Decimals.{digit_byte}
use Rattle.rules.specs.Reading.Lines.{bytes}

unfoldable pub part_name : List ℕ → ℕ → List ℕ
part_name path number = path ++ (bytes ".part-" ++ (digit_byte (number / 10) ∷ digit_byte (number % 10) ∷ []))

-- the most bytes of a name
abbrev pub most_name : ℕ
most_name = 4_095
