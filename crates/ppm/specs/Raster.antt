-- Pixels as bytes: each code is one byte where maxval is below 256, else two, the greater first.
use Rattle.std.specs.Prelude.{ℕ, ◌+◌, ◌*◌, ◌/◌, ◌%◌, ◌≤◌, min, ◌≡◌, Bool, true, false, List, [], ◌∷◌, length, take}
use Rattle.rules.specs.Memory.{spliced}

-- the codes that bytes are; a last byte that is half a code is none
unfoldable pub codes_of : Bool → List ℕ → List ℕ
codes_of false bytes = bytes
codes_of true [] = []
codes_of true (greater ∷ []) = []
codes_of true (greater ∷ lesser ∷ rest) = (greater * 256 + lesser) ∷ codes_of true rest

-- the bytes that codes are; of one byte a code's lesser byte, which is all of a code below 256
unfoldable pub bytes_of : Bool → List ℕ → List ℕ
bytes_of wide [] = []
bytes_of false (c ∷ rest) = (c % 256) ∷ bytes_of false rest
bytes_of true (c ∷ rest) = (c / 256) ∷ (c % 256) ∷ bytes_of true rest

-- how many codes so many bytes are, and how many bytes so many codes
abbrev pub code_count : Bool → ℕ → ℕ
code_count false n = n
code_count true n = n / 2

abbrev pub byte_count : Bool → ℕ → ℕ
byte_count false n = n
byte_count true n = n * 2

-- dst' is dst with the first n of src in front, and n is as many as src has and dst takes
pub record Copied (src dst : List ℕ) (n : ℕ) (dst' : List ℕ) : Type 0 where
  pub count : n ≡ min (length src) (length dst)
  pub within : n ≤ length dst'
  pub made : dst' ≡ spliced dst 0 (take n src)
