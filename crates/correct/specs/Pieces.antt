-- A piece of a picture: the pixels that its bytes are, up to the first that has a code above the greatest, corrected.
use Rattle.std.specs.Prelude.{ℕ, ◌+◌, ◌*◌, ◌/◌, ◌≤◌, ◌<◌, ◌≡◌, Bool, true, false, cond, List, ◌⊎◌, ltb, ℤ, length, take, Option, Some, None, Result, Ok, Err, IsErrAnd, ⊤}
use Rattle.rules.specs.Descriptions.{could_be_read}
use Rattle.rules.specs.Picturing.{corrected}
use Rattle.rules.specs.Units.{depths_of}
use Rattle.rules.specs.declared.Description.{Description}
use Rattle.colour.specs.Plans.{plan_of}
use Rattle.colour.specs.declared.plan.Plan.{Plan}
use Rattle.ppm.specs.Excess.{within, first_above}
use Rattle.ppm.specs.Header.{most_size}
use Rattle.ppm.specs.Raster.{bytes_of, byte_count, code_count, codes_of}
use Rattle.ppm.specs.declared.excess.Excess.{Excess}
use Rattle.correct.specs.Jobs.{bits_in, depths_in}
use Rattle.correct.specs.declared.jobs.Scales.{Scales}
use Rattle.correct.specs.declared.pieces.Piece.{Piece}
use Rattle.correct.specs.declared.pieces.Stop.{Stop}
use Rattle.correct.specs.declared.pieces.Stop.TheVariants.{Cut, TooGreat, Unread, Unwritten}

-- the bytes of a pixel
abbrev pub pixel_bytes : Bool → ℕ
pixel_bytes false = 3
pixel_bytes true = 6

-- a table that was read, at known depths, and the plan of both
pub record Readable (d : Description) (table : List ℤ) (s : Scales) (plan : Plan) : Type 0 where
  pub could : could_be_read d table ≡ true
  pub known : depths_of (bits_in s) ≡ Some (depths_in s)
  pub planned : plan ≡ plan_of d (depths_in s)

-- room for the codes that n bytes are, raw and corrected, and for the bytes that those are
pub record Room (s : Scales) (n bytes raw corrected : ℕ) : Type 0 where
  pub there : n ≤ bytes
  pub for_raw : code_count s.raw.wide n ≤ raw
  pub for_corrected : raw ≤ corrected
  pub for_bytes : byte_count s.corrected.wide (code_count s.raw.wide n) ≤ bytes

-- how many whole pixels stand before the first code above m
abbrev pub pixels_within : ℕ → List ℕ → ℕ
pixels_within m codes = within m codes / 3

-- the first bytes are the corrected pixels of the input, as many as stand before the first with a code above the greatest; and that code is told, with its
-- colour
pub record Corrects (d : Description) (table : List ℤ) (s : Scales) (input : List ℕ) (r : Piece) (bytes : List ℕ) : Type 0 where
  pub pixels : r.pixels ≡ pixels_within s.raw.depth.greatest (codes_of s.raw.wide input)
  pub few : r.pixels ≤ length input
  pub excess : r.excess ≡ first_above s.raw.depth.greatest (codes_of s.raw.wide input)
  pub inside : r.bytes ≤ length bytes
  pub made : take r.bytes bytes ≡ bytes_of s.corrected.wide (corrected d table (bits_in s) (take (r.pixels * 3) (codes_of s.raw.wide input)))

-- ---- sizes

-- a header's greatest width times its greatest height
abbrev pub most_pixels : ℕ
most_pixels = most_size * most_size

-- ---- how far a piece went

-- a piece of `want` pixels, the first of which has a number in the picture: to the code that is too great, to where the input ends, or to its own end
unfoldable pub passed_by : Option Excess → Piece → ℕ → ℕ → Result ⊤ Stop
passed_by (Some excess) piece first want = Err (TooGreat (first + piece.pixels) excess)
passed_by None piece first want = cond (ltb piece.pixels want) (Err (Cut (first + piece.pixels))) (Ok tt)

unfoldable pub passed_of : Piece → ℕ → ℕ → Result ⊤ Stop
passed_of piece first want = passed_by piece.excess piece first want

-- some input of a piece's length at most was corrected, and r says how far it went
pub record WentSoFar (d : Description) (table : List ℤ) (s : Scales) (first want : ℕ) (r : Result ⊤ Stop) : Type 0 where
  pub input : List ℕ
  pub piece : Piece
  pub bytes : List ℕ
  pub within_piece : length input ≤ want * pixel_bytes s.raw.wide
  pub corrects : Corrects d table s input piece bytes
  pub told : r ≡ passed_of piece first want

-- the system could not read a piece, which is told at its first pixel, or not write it
abbrev pub BySystem : ℕ → Stop → Type 0
BySystem first (Cut pixel) = ⊥
BySystem first (TooGreat pixel excess) = ⊥
BySystem first (Unread pixel error) = pixel ≡ first
BySystem first (Unwritten error) = Unit {0}

-- what becomes of a piece: it cannot be read, or not be written, or it goes so far
abbrev pub PieceGoes : Description → List ℤ → Scales → ℕ → ℕ → Result ⊤ Stop → Type 0
PieceGoes d table s first want r = IsErrAnd r (BySystem first) ⊎ WentSoFar d table s first want r

-- a code that is told as too great is above m
abbrev pub StopTruly : ℕ → Stop → Type 0
StopTruly m (Cut pixel) = Unit {0}
StopTruly m (TooGreat pixel excess) = m < excess.code
StopTruly m (Unread pixel error) = Unit {0}
StopTruly m (Unwritten error) = Unit {0}

abbrev pub TrulyTold : ℕ → Result ⊤ Stop → Type 0
TrulyTold m (Ok done) = Unit {0}
TrulyTold m (Err stop) = StopTruly m stop
