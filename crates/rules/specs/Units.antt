-- Document 01, "Units and places": units, limits, depths, colours, rows and where their numbers stand.
use Rattle.std.specs.Prelude.{ℕ, ◌+◌, ◌*◌, Bool, cond, ◌&&◌, List, eqb, leb, ℤ, pos, get_or, None, Option, Some}
use Rattle.rules.specs.declared.Bits.{Bits}
use Rattle.rules.specs.declared.Codes.{Codes}
use Rattle.rules.specs.declared.Colour.{Colour}
use Rattle.rules.specs.declared.Colour.TheVariants.{Red, Green, Blue}
use Rattle.rules.specs.declared.Depth.{Depth}
use Rattle.rules.specs.declared.Depths.{Depths}
use Rattle.rules.specs.declared.Kind.{Kind}
use Rattle.rules.specs.declared.Kind.TheVariants.{OneD, ThreeD}

-- ---- units and limits

-- samples are kept in ten-millionths
abbrev pub sample_places : ℕ
sample_places = 7

-- 1 as a sample
abbrev pub sample_one : ℕ
sample_one = 10_000_000

-- samples lie from -1000 to 1000
abbrev pub sample_limit : ℕ
sample_limit = 10_000_000_000

-- domain bounds are kept in thousandths
abbrev pub bound_places : ℕ
bound_places = 3

-- 1 as a bound
abbrev pub bound_one : ℕ
bound_one = 1000

-- domain bounds lie from -10 to 10
abbrev pub bound_limit : ℕ
bound_limit = 10_000

-- upper less lower is at most 10
abbrev pub width_limit : ℕ
width_limit = 10_000

-- ---- depths

-- so many bits, with greatest code M
abbrev pub of_bits : ℕ → ℕ → Depth
of_bits bits m = record { bits = bits; greatest = m }

-- a depth where the test takes it, and else another
abbrev pub or_else : (Depth → Bool) → Depth → Option Depth → Option Depth
or_else takes depth other = cond (takes depth) (Some depth) other

-- four depths are known: the one that the test takes
abbrev pub depth_that : (Depth → Bool) → Option Depth
depth_that takes =
    or_else takes (of_bits 8 255)
    (or_else takes (of_bits 10 1023)
    (or_else takes (of_bits 12 4095)
    (or_else takes (of_bits 16 65535)
    None)))

-- the depth of a width in bits
abbrev pub depth_of : ℕ → Option Depth
depth_of bits = depth_that (λ depth. eqb bits depth.bits)

-- the depth whose greatest code this is
abbrev pub depth_with : ℕ → Option Depth
depth_with m = depth_that (λ depth. eqb m depth.greatest)

-- two depths, of raw and of corrected codes, where both are known
abbrev pub together : Option Depth → Option Depth → Option Depths
together None corrected = None
together (Some raw) None = None
together (Some raw) (Some corrected) = Some (record { raw = raw; corrected = corrected })

abbrev pub depths_of : Bits → Option Depths
depths_of bits = together (depth_of bits.raw) (depth_of bits.corrected)

-- the widths asked for, raw and corrected
abbrev pub bits_of : ℕ → ℕ → Bits
bits_of raw corrected = record { raw = raw; corrected = corrected }

-- one width for both
abbrev pub same_bits : ℕ → Bits
same_bits width = bits_of width width

abbrev pub same_depth : Depth → Depths
same_depth m = record { raw = m; corrected = m }

-- the M of raw codes, and that of corrected codes
abbrev pub raw_m : Depths → ℕ
raw_m depths = depths.raw.greatest

abbrev pub corrected_m : Depths → ℕ
corrected_m depths = depths.corrected.greatest

-- ---- rows

-- N from 2 to 65536 in 1D, to 256 in 3D
abbrev pub greatest_n : Kind → ℕ
greatest_n OneD = 65_536
greatest_n ThreeD = 256

abbrev pub in_range : Kind → ℕ → Bool
in_range k n = leb 2 n && leb n (greatest_n k)

-- a 1D table has N rows, a 3D table N·N·N
abbrev pub rows_of : Kind → ℕ → ℕ
rows_of OneD n = n
rows_of ThreeD n = n * n * n

-- so at most 256·256·256
abbrev pub row_limit : ℕ
row_limit = 16_777_216

-- three numbers to a row: a table of so many places holds every table
abbrev pub place_limit : ℕ
place_limit = 3 * rows_of ThreeD (greatest_n ThreeD)

-- red index r, green g, blue b is row r + N·g + N·N·b
abbrev pub row_at : ℕ → (Colour → ℕ) → ℕ
row_at n i = i Red + n * i Green + n * n * i Blue

-- so one index up along an axis is so many rows up
abbrev pub stride : ℕ → Colour → ℕ
stride n Red = 1
stride n Green = n
stride n Blue = n * n

-- ---- places

-- red, green, blue
abbrev pub colour_place : Colour → ℕ
colour_place Red = 0
colour_place Green = 1
colour_place Blue = 2

-- the numbers of row n begin at place 3n
abbrev pub sample_at : List ℤ → ℕ → Colour → ℤ
sample_at table row c = get_or table (3 * row + colour_place c) (pos 0)

abbrev pub code_in : Codes → Colour → ℕ
code_in pixel Red = pixel.red
code_in pixel Green = pixel.green
code_in pixel Blue = pixel.blue
