-- How large a piece is, and what holds one.
use Rattle.std.specs.Prelude.{ℕ, ◌≤◌, Bool, ◌&&◌, leb}

-- the pixels of a piece
abbrev pub piece_pixels : ℕ
piece_pixels = 1_048_576

-- and its most bytes
abbrev pub piece_bytes : ℕ
piece_bytes = 6_291_456

-- lengths that hold a piece as bytes, as raw and as corrected codes
pub record Buffers (bytes raw corrected : ℕ) : Type 0 where
  pub of_bytes : piece_bytes ≤ bytes
  pub of_raw : 3_145_728 ≤ raw
  pub of_corrected : raw ≤ corrected

unfoldable pub has_room : ℕ → ℕ → ℕ → Bool
has_room bytes raw corrected = leb piece_bytes bytes && (leb 3_145_728 raw && leb raw corrected)
