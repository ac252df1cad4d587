-- An output that is filled pixel by pixel: a pixel read at a place, and what has been tried before.
use Rattle.std.specs.Prelude.{ℕ, ◌+◌, ◌%◌, ◌≤◌, ◌<◌, ◌≡◌, List, length, get_or}
use Rattle.rules.specs.Picturing.{pixel_of}
use Rattle.rules.specs.declared.Codes.{Codes}

-- the pixel whose codes begin at a place
abbrev pub pixel_from : List ℕ → ℕ → Codes
pixel_from codes at = pixel_of (get_or codes at 0) (get_or codes (at + 1) 0) (get_or codes (at + 2) 0)

-- a picture that has passed 21 and 22: whole pixels, with room for their codes
pub record Fillable (src : List ℕ) (places : ℕ) : Type 0 where
  pub whole : length src % 3 ≡ 0
  pub room : length src ≤ places

-- and 23: no code is above m
pub record Inside (m : ℕ) (src : List ℕ) : Type 0 where
  pub inside : (k : ℕ) → k < length src → get_or src k 0 ≤ m
