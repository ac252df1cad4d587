-- A strip: one colour of a 1D table as pieces of straight lines.
use Rattle.std.specs.Prelude.{ℕ, ◌+◌, ◌*◌, ◌/◌, ◌≤◌, ◌<◌, ◌≡◌, true, Option, IfSome, List, leb, ℤ, pos, nat_abs, ◌+ℤ◌, ◌-ℤ◌, ◌*ℤ◌, length, get_or}
use Rattle.whole.specs.Reciprocals.{reciprocal_of, excess}
use Rattle.rules.specs.Units.{raw_m, corrected_m, sample_at}
use Rattle.rules.specs.declared.Colour.{Colour}
use Rattle.rules.specs.declared.Depths.{Depths}
use Rattle.rules.specs.declared.Description.{Description}
use Rattle.colour.specs.Lines.{Lined}
use Rattle.colour.specs.declared.lines.Line.{Line}
use Rattle.lanes.specs.Lanes.{RunsAlong}
use Rattle.lanes.specs.Parts.{Parted}
use Rattle.strips.specs.declared.Piece.{Piece}
use Rattle.strips.specs.declared.Strip.{Strip}

-- ---- of what

-- a line with the two M of its depths
pub record LineAt (line : Line) (table : List ℤ) (raw most : ℕ) : Type 0 where
  pub lined : Lined line table
  pub raw_is : raw ≡ raw_m lined.planned.depths
  pub most_is : most ≡ corrected_m lined.planned.depths

-- positions a·c + b over den
abbrev pub slope_parts : Strip → ℕ
slope_parts strip = strip.axis.each * strip.cells

abbrev pub base_parts : Strip → ℕ
base_parts strip = nat_abs strip.axis.low.0 * strip.cells

pub record Stripped (strip : Strip) (table : List ℤ) : Type 0 where
  pub line : Line
  pub lined : Lined line table
  pub colour_is : strip.colour ≡ line.colour
  pub cells_are : strip.cells ≡ line.cells
  pub g : ℕ
  pub some : 0 < g
  pub parted : Parted g line.axis strip.axis
  pub runs : RunsAlong (raw_m lined.planned.depths) strip.cells strip.axis.den (slope_parts strip) (base_parts strip) strip.lane
  pub few : strip.cells ≤ 1024
  pub small : strip.axis.den * strip.cells ≤ 100_000_000
  pub in_terms : strip.axis.full ≡ strip.most * strip.axis.unit
  pub half_is : strip.half ≡ strip.axis.unit / 2
  pub top_is : strip.top ≡ strip.axis.full + strip.half
  pub unit_is : strip.unit ≡ reciprocal_of strip.axis.unit
  pub exact : leb (strip.top * excess strip.axis.unit) 18_446_744_073_709_551_615 ≡ true
  pub most_is : strip.most ≡ corrected_m lined.planned.depths

-- of this colour of this description, at these depths
pub record StrippedFor (d : Description) (depths : Depths) (c : Colour) (strip : Strip) (table : List ℤ) : Type 0 where
  pub stripped : Stripped strip table
  pub d_is : stripped.lined.planned.d ≡ d
  pub depths_are : stripped.lined.planned.depths ≡ depths
  pub colour_is : strip.colour ≡ c

abbrev pub StrippedIf : Description → Depths → Colour → List ℤ → Option Strip → Type 0
StrippedIf d depths c table found = IfSome found (λ strip. StrippedFor d depths c strip table)

-- ---- the piece of a cell i: half a code is in its base

abbrev pub step_of : Strip → List ℤ → ℕ → ℤ
step_of strip table i = sample_at table (i + 1) strip.colour -ℤ sample_at table i strip.colour

abbrev pub slope_of : Strip → List ℤ → ℕ → ℤ
slope_of strip table i = pos (slope_parts strip) *ℤ step_of strip table i

abbrev pub base_of : Strip → List ℤ → ℕ → ℤ
base_of strip table i =
    pos strip.axis.den *ℤ sample_at table i strip.colour
    +ℤ (pos (base_parts strip) -ℤ pos (i * strip.axis.den)) *ℤ step_of strip table i
    +ℤ pos strip.half

pub record PieceOf (strip : Strip) (table : List ℤ) (i : ℕ) (piece : Piece) : Type 0 where
  pub slope_is : piece.slope.0 ≡ slope_of strip table i
  pub base_is : piece.base.0 ≡ base_of strip table i

pub record LaidOut (strip : Strip) (table slopes bases : List ℤ) : Type 0 where
  pub slopes_long : strip.cells ≤ length slopes
  pub bases_long : strip.cells ≤ length bases
  pub slopes_are : (i : ℕ) → i < strip.cells → get_or slopes i (pos 0) ≡ slope_of strip table i
  pub bases_are : (i : ℕ) → i < strip.cells → get_or bases i (pos 0) ≡ base_of strip table i

-- a code within the raw depth, and the pieces of the strip
pub record StripAt (strip : Strip) (table slopes bases : List ℤ) (code : ℕ) : Type 0 where
  pub stripped : Stripped strip table
  pub laid : LaidOut strip table slopes bases
  pub inside : code ≤ raw_m stripped.lined.planned.depths
