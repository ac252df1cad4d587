-- A part's name is eight bytes longer than OUT's.
use Prim.Native.Nat.{ℕ, ◌+◌, ◌/◌, ◌%◌}
use mathlib.Core.Path.{◌≡◌}
use mathlib.Core.List.{List, [], ◌∷◌, ◌++◌}
use lib.ListN.{length, length-append}
use Rattle.rules.specs.Decimals.{digit_byte}
use Rattle.rules.specs.Reading.Lines.{bytes}
use Rattle.correct.specs.Parts.{part_name}

pub part_length : (path : List ℕ) (number : ℕ) → length (part_name path number) ≡ length path + 8
unfolding part_name bytes
part_length path number = length-append path (bytes ".part-" ++ (digit_byte (number / 10) ∷ digit_byte (number % 10) ∷ []))
