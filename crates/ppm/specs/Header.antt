-- The header of a binary PPM picture, as the netpbm page on the format has it: "P6", width, height and maxval in decimal digits, parted by
-- whitespace, and a single whitespace byte after maxval. A comment goes from # to the end of its line.
-- We are narrower in one thing: # directly after P6 or a digit is refused, since a comment there may be read in two ways.
use Rattle.std.specs.Prelude.{ℕ, ◌+◌, ◌-◌, ◌≤◌, Bool, false, cond, not, ◌&&◌, ◌||◌, List, [], ◌∷◌, eqb, leb, ltb, length, take, drop, get_or, Result, Ok, Err}
use Rattle.rules.specs.Reading.Lines.{digit, hash}
use Rattle.rules.specs.Reading.Numerals.{spell}
use Rattle.scan.specs.RunEnds.{run_end}
use Rattle.ppm.specs.Kinds.{kind_of}
use Rattle.ppm.specs.declared.header.Part.{Part}
use Rattle.ppm.specs.declared.header.Part.TheVariants.{Width, Height, Maxval}
use Rattle.ppm.specs.declared.header.Fault.{Fault}
use Rattle.ppm.specs.declared.header.Fault.TheVariants.{NotP6, EndsEarly, Malformed, Beyond}
use Rattle.ppm.specs.declared.header.Frame.{Frame}
use Rattle.ppm.specs.declared.header.Count.{Count}

-- ---- whitespace and comments

-- space, or tab, newline, vertical tab, form feed, carriage return, which are 9 to 13
abbrev pub whitespace : ℕ → Bool
whitespace b = eqb b 32 || leb 9 b && leb b 13

-- the end of a line: newline or carriage return
abbrev pub line_end : ℕ → Bool
line_end b = eqb b 10 || eqb b 13

-- a byte of the gap before a number: any in a comment; outside of one whitespace, and # that begins one
abbrev pub goes_on : Bool → ℕ → Bool
goes_on comment b = comment || hash b || whitespace b

-- whether a comment goes on after a byte
abbrev pub comment_after : Bool → ℕ → Bool
comment_after comment b = cond comment (not (line_end b)) (hash b)

-- how many bytes the gap has, begun in a comment or outside of one
unfoldable pub gap_length : Bool → List ℕ → ℕ
gap_length comment [] = 0
gap_length comment (b ∷ rest) = cond (goes_on comment b) (1 + gap_length (comment_after comment b) rest) 0

-- where the gap from place p on ends
abbrev pub gap_end : Bool → List ℕ → ℕ → ℕ
gap_end comment s p = p + gap_length comment (drop p s)

-- ---- a number of the header

-- the greatest width and height, and the greatest maxval
abbrev pub most_size : ℕ
most_size = 2_147_483_647

abbrev pub most_maxval : ℕ
most_maxval = 65_535

-- the greatest that each number may be
abbrev pub most_of : Part → ℕ
most_of Width = most_size
most_of Height = most_size
most_of Maxval = most_maxval

-- a value, and the place after the number
abbrev pub counted : ℕ → ℕ → Count
counted value next = record { value = value; next = next }

-- digits from a start to an end, ended by a whitespace byte, and within the limit
unfoldable pub field_between : Part → ℕ → List ℕ → ℕ → ℕ → Result Count Fault
field_between part limit s start end =
    let value = spell 0 (take (end - start) (drop start s)) in
    cond (eqb end (length s)) (Err EndsEarly)
    (cond (eqb end start) (Err (Malformed part))
    (cond (whitespace (get_or s end 0))
    (cond (leb value limit) (Ok (counted value (end + 1)))
    (Err (Beyond part)))
    (Err (Malformed part))))

-- the number from place p on: a gap, if any, then all digits that follow it
unfoldable pub field_at : Part → ℕ → List ℕ → ℕ → Result Count Fault
field_at part limit s p = let start = gap_end false s p in field_between part limit s start (run_end digit s start)

-- a number that is found ends within the bytes
abbrev pub EndsWithin : List ℕ → Result Count Fault → Type 0
EndsWithin s (Ok number) = number.next ≤ length s
EndsWithin s (Err fault) = Unit {0}

-- ---- the header

-- P6 and a whitespace byte
unfoldable pub starts_p6 : List ℕ → Bool
starts_p6 s = eqb (get_or s 0 0) 80 && (eqb (get_or s 1 0) 54 && whitespace (get_or s 2 0))

-- the pixels begin after the byte that ends maxval
unfoldable pub with_maxval : ℕ → ℕ → Result Count Fault → Result Frame Fault
with_maxval width height (Err fault) = Err fault
with_maxval width height (Ok maxval) = Ok (record { width = width; height = height; maxval = maxval.value; pixels = maxval.next })

unfoldable pub after_height : List ℕ → ℕ → Count → Result Frame Fault
after_height s width height = with_maxval width height.value (field_at Maxval most_maxval s height.next)

unfoldable pub with_height : List ℕ → ℕ → Result Count Fault → Result Frame Fault
with_height s width (Err fault) = Err fault
with_height s width (Ok height) = after_height s width height

unfoldable pub after_width : List ℕ → Count → Result Frame Fault
after_width s width = with_height s width.value (field_at Height most_size s width.next)

unfoldable pub with_width : List ℕ → Result Count Fault → Result Frame Fault
with_width s (Err fault) = Err fault
with_width s (Ok width) = after_width s width

-- what the header at the start of the bytes says; fewer than four bytes do not tell what they begin
unfoldable pub header_of : List ℕ → Result Frame Fault
header_of s =
    cond (ltb (length s) 4) (Err EndsEarly)
    (cond (starts_p6 s) (with_width s (field_at Width most_size s 3))
    (Err (NotP6 (kind_of s))))

-- ---- what a header that stands keeps

-- width and height are within their limits
abbrev pub SizedFrame : Frame → Type 0
SizedFrame frame = (frame.width ≤ most_size) × (frame.height ≤ most_size)

abbrev pub Sized : Result Frame Fault → Type 0
Sized (Ok frame) = SizedFrame frame
Sized (Err fault) = Unit {0}
