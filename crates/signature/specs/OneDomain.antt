-- Look and picture as they were before document 02's Req 07: a 3D table has one domain, and each colour's D and fraction are those of its own domain, D = M·w.
-- What does not stand here anew is that of the rules. At the end, files whose domains differ.
use Rattle.std.specs.Prelude.{ℕ, Bool, true, cond, ◌&&◌, List, ◌++◌, ℤ, pos, length, drop, Err, None, Ok, Option, Some}
use Prim.Native.String.{String}
use Rattle.rules.specs.Units.{depths_of, raw_m, corrected_m, code_in}
use Rattle.rules.specs.Descriptions.{domain, one_domain, could_be_read, no_title}
use Rattle.rules.specs.Looking.Interpolation.{den, position, fraction, index_of, order, pair_by, path_by, code_by}
use Rattle.rules.specs.Looking.{within, six}
use Rattle.rules.specs.Picturing.{each_pixel, picture_at}
use Rattle.rules.specs.Answers.{codes_in}
use Rattle.rules.specs.declared.Bits.{Bits}
use Rattle.rules.specs.declared.Codes.{Codes}
use Rattle.rules.specs.declared.Colour.{Colour}
use Rattle.rules.specs.declared.Colour.TheVariants.{Red, Green, Blue}
use Rattle.rules.specs.declared.Description.{Description}
use Rattle.rules.specs.declared.Domain.{Domain}
use Rattle.rules.specs.declared.Kind.{Kind}
use Rattle.rules.specs.declared.Kind.TheVariants.{OneD, ThreeD}
use Rattle.rules.specs.declared.Refusal.TheVariants.{DepthUnknown, CodeTooGreat, CouldNotBeRead}
use Rattle.rules.specs.declared.Share.{Share}
use Rattle.rules.specs.declared.Shares.{Shares}
use Rattle.rules.specs.declared.Depths.{Depths}
use Rattle.rules.specs.Results.{Look, Picture, look_of}

-- ---- a look by N, and by the D, the index and the fraction of each colour

module _ (n : ℕ) (den i f : Colour → ℕ) where
  abbrev pub pair_with : Colour → List Share
  pair_with c = pair_by (den c) (i c) (f c)

  -- in the order of the fractions; the D of red is that of all three
  abbrev pub path_with : List Share
  path_with = path_by n (den Red) i f (order f)

  -- the rows and weights that make a colour's code
  abbrev pub shares_with : Kind → Colour → List Share
  shares_with OneD c = pair_with c
  shares_with ThreeD c = path_with

  abbrev pub shown_with : Kind → Shares
  shown_with OneD = six (pair_with Red ++ (pair_with Green ++ pair_with Blue))
  shown_with ThreeD = six path_with

  -- m is the M of corrected codes
  abbrev pub code_with : Kind → List ℤ → ℕ → Colour → ℕ
  code_with k table m c = code_by m (den c) table c (shares_with k c)

  -- of a pixel whose codes are within the raw depth, or not
  abbrev pub look_with : Bool → Kind → List ℤ → ℕ → Look
  look_with inside k table m =
      cond inside
      (look_of (record { red = code_with k table m Red; green = code_with k table m Green; blue = code_with k table m Blue }) (shown_with k))
      (Err CodeTooGreat)

-- ---- 24

-- in 3D the three colours have one domain
unfoldable pub agree_before : Kind → Description → Bool
agree_before OneD d = true
agree_before ThreeD d = one_domain d

-- what could have been read; `agree` asks less than this
unfoldable pub could_be_read_before : Description → List ℤ → Bool
could_be_read_before d table = agree_before d.kind d && could_be_read d table

-- ---- look

-- what each colour has by its own domain; m is the M of raw codes
module _ (d : Description) (m : ℕ) where
  abbrev pub own_den : Colour → ℕ
  own_den c = den m (domain d c)

  abbrev pub own_position : Codes → Colour → ℕ
  own_position pixel c = position m (domain d c) d.n (code_in pixel c)

  abbrev pub own_fraction : Codes → Colour → ℕ
  own_fraction pixel c = fraction m (domain d c) d.n (code_in pixel c)

unfoldable pub look_before_at : Description → List ℤ → Codes → Option Depths → Look
look_before_at d table pixel None = Err DepthUnknown
look_before_at d table pixel (Some depths) =
    let m = raw_m depths in
    look_with d.n (own_den d m) (index_of d m pixel) (own_fraction d m pixel) (within m pixel) d.kind table (corrected_m depths)

unfoldable pub look_before : Description → List ℤ → Bits → Codes → Look
look_before d table bits pixel = cond (could_be_read_before d table) (look_before_at d table pixel (depths_of bits)) (Err CouldNotBeRead)

-- ---- picture

unfoldable pub picture_before : Description → List ℤ → Bits → List ℕ → ℕ → Picture
picture_before d table bits src places = cond (could_be_read_before d table) (picture_at (depths_of bits) src places) (Err CouldNotBeRead)

unfoldable pub output_before : Description → List ℤ → Bits → List ℕ → List ℕ → Picture → List ℕ
output_before d table bits src dst (Ok _) = each_pixel (λ pixel. codes_in (look_before d table bits pixel)) src ++ drop (length src) dst
output_before d table bits src dst (Err r) = dst

-- ---- tables whose domains differ, and one whose domains are one

-- red from 0 to 2, the others from 0 to 1; rows 2 and 7 are 1, the others 0
abbrev pub red_wider : String
red_wider = "LUT_3D_SIZE 2\nDOMAIN_MIN 0 0 0\nDOMAIN_MAX 2 1 1\n0 0 0\n0 0 0\n1 1 1\n0 0 0\n0 0 0\n0 0 0\n0 0 0\n1 1 1\n"

-- green from 1 to 2, the others from 0 to 1: each is 1 wide
abbrev pub green_higher : String
green_higher = "LUT_3D_SIZE 2\nDOMAIN_MIN 0 1 0\nDOMAIN_MAX 1 2 1\n0 0 0\n0 0 0\n1 1 1\n0 0 0\n0 0 0\n0 0 0\n0 0 0\n1 1 1\n"

-- red from -1 to 1, the others from 0 to 2: each is 2 wide
abbrev pub red_lower : String
red_lower = "LUT_3D_SIZE 2\nDOMAIN_MIN -1 0 0\nDOMAIN_MAX 1 2 2\n0 0 0\n0 0 0\n1 1 1\n0 0 0\n0 0 0\n0 0 0\n0 0 0\n1 1 1\n"

-- all three from 0 to 2
abbrev pub all_wider : String
all_wider = "LUT_3D_SIZE 2\nDOMAIN_MIN 0 0 0\nDOMAIN_MAX 2 2 2\n0 0 0\n0 0 0\n1 1 1\n0 0 0\n0 0 0\n0 0 0\n0 0 0\n1 1 1\n"

-- of the first: by the common D, 510 at 8 bits, the fractions are 204, 306 and 102; by their own they are 204,000 of 510,000, and 153,000 and 51,000 of 255,000
abbrev pub green_first : Codes
green_first = record { red = 204; green = 153; blue = 51 }

abbrev up_to : ℕ → Domain
up_to n = record { lower = record { 0 = pos 0 }; upper = record { 0 = pos n } }

-- a description with red, green and blue from 0 to so many thousandths
abbrev pub cube_to : ℕ → ℕ → ℕ → Description
cube_to r g b = record { kind = ThreeD; n = 2; red = up_to r; green = up_to g; blue = up_to b; title = no_title }
