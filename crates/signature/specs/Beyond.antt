-- Document 01, "Interpolation": codes at a bound of a domain or beyond it, where m is the M of raw codes. A code's value is c / M, and a bound is in thousandths.
use Rattle.std.specs.Prelude.{ℕ, ◌*◌, ◌≡◌, true, pos, ◌*ℤ◌, ◌≤ℤ◌}
use Rattle.rules.specs.Units.{bound_one, code_in}
use Rattle.rules.specs.Descriptions.{domain}
use Rattle.rules.specs.Looking.{within}
use Rattle.rules.specs.declared.Codes.{Codes}
use Rattle.rules.specs.declared.Colour.{Colour}
use Rattle.rules.specs.declared.Description.{Description}
use Rattle.rules.specs.declared.Domain.{Domain}

module _ (m : ℕ) (dom : Domain) where
  -- the value is the lower bound or below it: 1000·c is at most M·lo
  abbrev pub AtLower : ℕ → Type 0
  AtLower c = pos (bound_one * c) ≤ℤ (pos m *ℤ dom.lower.0)

  -- the value is the upper bound or above it
  abbrev pub AtUpper : ℕ → Type 0
  AtUpper c = (pos m *ℤ dom.upper.0) ≤ℤ pos (bound_one * c)

  -- two codes are the same, or both stand at the lower bound or below it, or both at the upper bound or above it
  pub data Alike (a b : ℕ) : Type 0 where
    same : a ≡ b → Alike a b
    low : AtLower a → AtLower b → Alike a b
    high : AtUpper a → AtUpper b → Alike a b

-- two pixels within the depth that are alike in each colour, by its own domain
pub record AlikePixels (m : ℕ) (d : Description) (a b : Codes) : Type 0 where
  pub a_within : within m a ≡ true
  pub b_within : within m b ≡ true
  pub alike : (c : Colour) → Alike m (domain d c) (code_in a c) (code_in b c)
