-- Document 02, Req 04: which raw code gives a wanted corrected code, in one colour of a 1D table.
use Rattle.std.specs.Prelude.{ℕ, zero, suc, ◌+◌, ◌-◌, Bool, true, false, cond, ◌&&◌, List, eqb, leb, ltb, ℤ, None, Option, Some}
use Rattle.rules.specs.Units.{depths_of, raw_m, corrected_m}
use Rattle.rules.specs.Descriptions.{could_be_read}
use Rattle.rules.specs.Looking.{line_code}
use Rattle.rules.specs.declared.Aim.{Aim}
use Rattle.rules.specs.declared.Bits.{Bits}
use Rattle.rules.specs.declared.Depths.{Depths}
use Rattle.rules.specs.declared.Description.{Description}
use Rattle.rules.specs.declared.Kind.{Kind}
use Rattle.rules.specs.declared.Kind.TheVariants.{OneD, ThreeD}
use Rattle.rules.specs.declared.Refusal.TheVariants.{DepthUnknown, CodeTooGreat, CouldNotBeRead, NoneWithinTolerance}
use Rattle.rules.specs.Results.{Inverse, inverse_of, no_inverse}

-- ---- the search, by what each raw code is corrected to

-- how far two codes lie apart
abbrev pub apart : ℕ → ℕ → ℕ
apart a b = (a - b) + (b - a)

-- what a search has come to: the nearest of the codes tried, the lowest if several; and how many were tried. They were tried from 0 upward, so that count
-- is also the code that comes next.
pub record Search : Type 0 where
  pub nearest : ℕ
  pub tries : ℕ

module _ (corrected : ℕ → ℕ) (wanted : ℕ) where
  -- how far off a raw code is: its corrected code from the wanted one
  abbrev pub off : ℕ → ℕ
  off code = apart (corrected code) wanted

  -- the next code is tried, and is the nearest if it is nearer than the one before
  unfoldable pub try_next : Search → Search
  try_next s = record { nearest = cond (ltb (off s.tries) (off s.nearest)) s.tries s.nearest; tries = suc s.tries }

  -- so many codes more, up to the first exact hit
  unfoldable pub try_on : ℕ → Search → Search
  try_on zero s = s
  try_on (suc more) s = cond (eqb (off s.nearest) 0) s (try_on more (try_next s))

  -- code 0, and after it those up to m
  unfoldable pub search : ℕ → Search
  search m = try_on m (record { nearest = 0; tries = 1 })

-- ---- the inverse

abbrev pub is_line : Kind → Bool
is_line OneD = true
is_line ThreeD = false

-- the raw codes of a table, each corrected by itself, tried up to the raw M
abbrev pub search_in : Description → List ℤ → Depths → Aim → Search
search_in d table depths aim = search (line_code d table depths aim.colour) aim.wanted (raw_m depths)

-- how far off a raw code is
abbrev pub off_by : Description → List ℤ → Depths → Aim → ℕ → ℕ
off_by d table depths aim code = off (line_code d table depths aim.colour) aim.wanted code

-- a search whose nearest code is so far off: that code is answered if it lies within the tolerance, and the count is given either way
abbrev pub if_within : ℕ → ℕ → Search → Inverse
if_within far tolerance s = cond (leb far tolerance) (inverse_of s.nearest s.tries) (no_inverse NoneWithinTolerance s.tries)

abbrev pub searched : Description → List ℤ → Depths → Aim → Search → Inverse
searched d table depths aim s = if_within (off_by d table depths aim s.nearest) aim.tolerance s

unfoldable pub inverse_at : Description → List ℤ → Aim → Option Depths → Inverse
inverse_at d table aim None = no_inverse DepthUnknown 0
inverse_at d table aim (Some depths) =
    cond (leb aim.wanted (corrected_m depths)) (searched d table depths aim (search_in d table depths aim)) (no_inverse CodeTooGreat 0)

-- the checks run 24, which a 3D table is too, 20, 23, 28
unfoldable pub inverse : Description → List ℤ → Bits → Aim → Inverse
inverse d table bits aim = cond (is_line d.kind && could_be_read d table) (inverse_at d table aim (depths_of bits)) (no_inverse CouldNotBeRead 0)
