-- Kept codes: what each raw code is corrected to, a list for each colour.
use Rattle.std.specs.Prelude.{ℕ, ◌≤◌, ◌<◌, ◌≡◌, List, length, get_or}
use Rattle.rules.specs.Picturing.{pixel_of}
use Rattle.rules.specs.declared.Codes.{Codes}

-- what f makes of each code below count
pub record Kept (f : ℕ → ℕ) (count : ℕ) (kept : List ℕ) : Type 0 where
  pub long : count ≤ length kept
  pub are : (c : ℕ) → c < count → get_or kept c 0 ≡ f c

-- those of a pixel
abbrev pub kept_pixel : List ℕ → List ℕ → List ℕ → Codes → Codes
kept_pixel reds greens blues pixel = pixel_of (get_or reds pixel.red 0) (get_or greens pixel.green 0) (get_or blues pixel.blue 0)

-- every code of a picture is among those kept
pub record Listed (reds greens blues src : List ℕ) : Type 0 where
  pub count : ℕ
  pub below : (k : ℕ) → k < length src → get_or src k 0 < count
  pub reds_long : count ≤ length reds
  pub greens_long : count ≤ length greens
  pub blues_long : count ≤ length blues
