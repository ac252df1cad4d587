-- The end of a padded message, which code puts together apart from the whole blocks.
use Rattle.std.specs.Prelude.{◌≡◌, ℕ, ◌<◌, List, ◌++◌, length, slice_index}
use Rattle.digest.specs.Sha256.{ending}

-- the bytes after the last whole block of a message of so many bits, and its ending
abbrev pub ended : List ℕ → ℕ → List ℕ
ended rest bits = rest ++ ending (length rest) bits

-- the same bytes in the first n places, where a place past the end has 0
pub record Alike (n : ℕ) (a b : List ℕ) : Type 0 where
  pub at : (i : ℕ) → i < n → slice_index a i ≡ slice_index b i
