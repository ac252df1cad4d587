-- Document 01, "Checked by hand": the cases marked P as one table, a case for every number of "Answers by number", and sample A.3 read whole.
use Rattle.std.specs.Prelude.{ℕ, ◌+◌, ◌≡◌, true, List, [], ◌∷◌, ◌++◌, ℤ, pos, negsuc, length, replicate, Ok}
use Prim.Native.String.{String}
use Rattle.rules.specs.Units.{bits_of, same_bits}
use Rattle.rules.specs.Reading.Lines.{bytes, after}
use Rattle.rules.specs.Reading.{read, table_after}
use Rattle.rules.specs.Looking.{first_half, second_half, look}
use Rattle.rules.specs.Picturing.{picture, output_after}
use Rattle.rules.specs.Writing.{write, bytes_after}
use Rattle.rules.specs.Inverting.{inverse}
use Rattle.rules.specs.Answers.{read_number, read_line, read_description, look_number, look_codes, look_rows, look_weights, first_number, first_rows, first_weights, second_number, second_codes, picture_number, write_number, written_length, inverse_number, inverse_code, inverse_count}
use Rattle.rules.specs.Boundary.{shares_in, aim_at}
use Rattle.rules.specs.declared.Aim.{Aim}
use Rattle.rules.specs.declared.Bits.{Bits}
use Rattle.rules.specs.declared.Codes.{Codes}
use Rattle.rules.specs.declared.Colour.{Colour}
use Rattle.rules.specs.declared.Colour.TheVariants.{Red, Green, Blue}
use Rattle.rules.specs.declared.Description.{Description}
use Rattle.rules.specs.declared.Kind.TheVariants.{OneD}
use Rattle.signature.specs.OneDomain.{red_wider, green_higher, red_lower, all_wider, green_first, cube_to}
use Rattle.rules.specs.Results.{FirstHalf, Inverse, Look, Picture, Read, SecondHalf, Write}

-- ---- what is asked, and what comes out

pub data Question : Type 0 where
  -- reading a file into a table of so many places that hold 77
  reading : List ℕ → ℕ → Question
  -- looking at one pixel
  looking : Description → List ℤ → Bits → Codes → Question
  -- correcting a picture into an output of so many places that hold 77
  picturing : Description → List ℤ → Bits → List ℕ → ℕ → Question
  -- writing a table with a title into so many bytes that hold 77
  writing : Description → List ℤ → List ℕ → ℕ → Question
  -- finding the rows and weights of one pixel, at a raw depth
  finding : Description → List ℤ → ℕ → Codes → Question
  -- giving the codes of six rows and six weights
  giving : Description → List ℤ → Bits → List ℕ → List ℤ → Question
  -- looking for the raw code of a wanted one
  inverting : Description → List ℤ → Bits → Aim → Question

-- in the paper's numbers; what a call does not give is empty
pub record Outcome : Type 0 where
  pub number : ℕ
  pub line : ℕ
  pub table : List ℤ
  pub codes : List ℕ
  pub rows : List ℕ
  pub weights : List ℤ
  pub text : List ℕ
  pub count : ℕ

pub record Case : Type 0 where
  pub asked : Question
  pub expected : Outcome

abbrev pub untouched : ℕ → List ℤ
untouched places = replicate places (pos 77)

abbrev pub outcome : Question → Outcome
outcome (reading file places) =
    let r : Read = read file places in
    record { number = read_number r; line = read_line r; table = table_after file (untouched places) r; codes = []; rows = []; weights = []; text = []; count = 0 }
outcome (looking d table bits pixel) =
    let r : Look = look d table bits pixel in
    record { number = look_number r; line = 0; table = []; codes = look_codes r; rows = look_rows r; weights = look_weights r; text = []; count = 0 }
outcome (picturing d table bits src places) =
    let r : Picture = picture d table bits src places in
    record { number = picture_number r; line = 0; table = []; codes = output_after d table bits src (replicate places 77) r; rows = []; weights = []; text = []; count = 0 }
outcome (writing d table title places) =
    let r : Write = write d table title places in
    record {
      number = write_number r;
      line = 0;
      table = [];
      codes = [];
      rows = [];
      weights = [];
      text = bytes_after d table title (replicate places 77) r;
      count = written_length r;
    }
outcome (finding d table raw pixel) =
    let r : FirstHalf = first_half d table raw pixel in
    record { number = first_number r; line = 0; table = []; codes = []; rows = first_rows r; weights = first_weights r; text = []; count = 0 }
outcome (giving d table bits rows weights) =
    let r : SecondHalf = second_half d table bits (shares_in rows weights) in
    record { number = second_number r; line = 0; table = []; codes = second_codes r; rows = []; weights = []; text = []; count = 0 }
outcome (inverting d table bits aim) =
    let r : Inverse = inverse d table bits aim in
    record { number = inverse_number r; line = 0; table = []; codes = inverse_code r ∷ []; rows = []; weights = []; text = []; count = inverse_count r }

-- ---- cases, from the text of a file on

abbrev pub described_by : String → Description
described_by file = read_description (read (bytes file) 24)

abbrev pub table_from : String → List ℤ
table_from file = table_after (bytes file) (untouched 24) (read (bytes file) 24)

abbrev pub grey : ℕ → Codes
grey c = record { red = c; green = c; blue = c }

-- a word as the first number of a 1D file of two rows: a number and line, or that sample
abbrev pub word : String → ℕ → ℕ → List ℤ → Case
word w number line samples = record {
  asked = reading (bytes "LUT_1D_SIZE 2\n" ++ (bytes w ++ bytes " 0 0\n0 0 0")) 6;
  expected = record { number = number; line = line; table = samples; codes = []; rows = []; weights = []; text = []; count = 0 };
}

-- a file that is refused
abbrev pub refused : List ℕ → ℕ → ℕ → ℕ → Case
refused file places number line = record {
  asked = reading file places;
  expected = record { number = number; line = line; table = untouched places; codes = []; rows = []; weights = []; text = []; count = 0 };
}

-- a pixel that is corrected
abbrev pub looked : String → Bits → Codes → List ℕ → List ℕ → List ℤ → Case
looked file bits pixel codes rows weights = record {
  asked = looking (described_by file) (table_from file) bits pixel;
  expected = record { number = 0; line = 0; table = []; codes = codes; rows = rows; weights = weights; text = []; count = 0 };
}

-- two for each colour, all colours alike
abbrev pub thrice : {A : Type 0} → A → A → List A
thrice v w = v ∷ w ∷ v ∷ w ∷ v ∷ w ∷ []

-- 1D with N = 2, all colours alike: a code, its answer, its two weights
abbrev pub two_rows : String → Bits → ℕ → ℕ → ℕ → ℕ → Case
two_rows file bits c r v w = looked file bits (grey c) (r ∷ r ∷ r ∷ []) (thrice 0 1) (thrice (pos v) (pos w))

abbrev pub zero_and_half : String
zero_and_half = "LUT_1D_SIZE 2\n0 0 0\n0.5 0.5 0.5\n"

abbrev pub minus_and_plus_half : String
minus_and_plus_half = "LUT_1D_SIZE 2\n-0.5 -0.5 -0.5\n0.5 0.5 0.5\n"

abbrev pub zero_and_two : String
zero_and_two = "LUT_1D_SIZE 2\n0 0 0\n2 2 2\n"

abbrev pub three_rows : String
three_rows = "LUT_1D_SIZE 3\n0 0 0\n0.5 0.5 0.5\n1 1 1\n"

-- document 000, sample A.3
abbrev pub sample_a3 : String
sample_a3 = "TITLE \"Demo\"\nLUT_1D_SIZE 3\nDOMAIN_MIN 0 0 0\nDOMAIN_MAX 1 2 3\n0 0 0\n# Comments can go anywhere\n0.5 1 1.5\n1 1 1\n"

-- an empty title, and a lower bound below 0
abbrev pub half_below : String
half_below = "TITLE \"\"\nLUT_1D_SIZE 2\nDOMAIN_MIN -0.5 0 0\nDOMAIN_MAX 1 1 1\n0 0 0\n1 1 1\n"

-- 3D, all rows zero but row 7
abbrev pub corner : String
corner = "LUT_3D_SIZE 2\n0 0 0\n0 0 0\n0 0 0\n0 0 0\n0 0 0\n0 0 0\n0 0 0\n1 1 1\n"

abbrev pub corner_pixel : Codes
corner_pixel = record { red = 51; green = 102; blue = 204 }

-- document 01's 3D file, as eleven numbers whose title's places hold what no reading gives
abbrev pub odd_title : ℕ → List ℤ
odd_title kind = pos kind ∷ pos 2 ∷ pos 0 ∷ pos 0 ∷ pos 0 ∷ pos 1000 ∷ pos 1000 ∷ pos 1000 ∷ pos 5 ∷ negsuc 8 ∷ negsuc 9 ∷ []

-- ---- the cases marked P

abbrev pub marked : List Case
marked =
    word "1e-7" 0 0 (pos 1 ∷ replicate 5 (pos 0))
    ∷ word "1e-8" 17 2 (untouched 6)
    ∷ word "-.5" 0 0 (negsuc 4_999_999 ∷ replicate 5 (pos 0))
    ∷ word "1000.00000001" 16 2 (untouched 6)
    ∷ refused [] 6 9 1
    ∷ two_rows zero_and_half (same_bits 8) 1 1 254_000 1_000
    ∷ two_rows minus_and_plus_half (same_bits 8) 127 0 128_000 127_000
    ∷ two_rows minus_and_plus_half (same_bits 8) 128 1 127_000 128_000
    ∷ two_rows zero_and_two (same_bits 8) 200 255 55_000 200_000
    ∷ looked three_rows (same_bits 16) (grey 32768) (32768 ∷ 32768 ∷ 32768 ∷ []) (1 ∷ 2 ∷ 1 ∷ 2 ∷ 1 ∷ 2 ∷ [])
    (pos 65_534_000 ∷ pos 1_000 ∷ pos 65_534_000 ∷ pos 1_000 ∷ pos 65_534_000 ∷ pos 1_000 ∷ [])
    ∷ looked sample_a3 (same_bits 8) (grey 255) (255 ∷ 255 ∷ 255 ∷ []) (1 ∷ 2 ∷ 1 ∷ 2 ∷ 0 ∷ 1 ∷ [])
    (pos 0 ∷ pos 255_000 ∷ pos 510_000 ∷ pos 0 ∷ pos 255_000 ∷ pos 510_000 ∷ [])
    ∷ looked corner (same_bits 8) corner_pixel (51 ∷ 51 ∷ 51 ∷ []) (0 ∷ 4 ∷ 6 ∷ 7 ∷ 0 ∷ 0 ∷ []) (pos 51_000 ∷ pos 102_000 ∷ pos 51_000 ∷ pos 51_000 ∷ pos 0 ∷ pos 0 ∷ [])
    ∷ []

-- ---- a case for every other number

-- no description that reading could have given: N is 1
abbrev pub one_row : Description
one_row = record {
  kind = OneD;
  n = 1;
  red = (described_by zero_and_half).red;
  green = (described_by zero_and_half).green;
  blue = (described_by zero_and_half).blue;
  title = (described_by zero_and_half).title;
}

-- a look that is refused gives zeros
abbrev pub look_refused : Description → Bits → Codes → ℕ → Case
look_refused d bits pixel number = record {
  asked = looking d (table_from zero_and_half) bits pixel;
  expected = record { number = number; line = 0; table = []; codes = replicate 3 0; rows = replicate 6 0; weights = replicate 6 (pos 0); text = []; count = 0 };
}

-- a picture with its number and what the output holds afterwards
abbrev pub pictured : Description → Bits → List ℕ → ℕ → ℕ → List ℕ → Case
pictured d bits src places number after = record {
  asked = picturing d (table_from zero_and_half) bits src places;
  expected = record { number = number; line = 0; table = []; codes = after; rows = []; weights = []; text = []; count = 0 };
}

abbrev pub numbered : List Case
numbered =
    refused (35 ∷ replicate 250 65) 6 1 1
    ∷ refused (bytes "# a\r\n") 6 2 1
    ∷ refused (bytes "\n # a") 6 3 2
    ∷ refused (bytes "LUT_1D_SIZE 2\n0 0 0\nTITLE \"a\"") 6 4 3
    ∷ refused (bytes "LUT_1D_SIZE 2\nLUT_3D_SIZE 2") 24 5 2
    ∷ refused (bytes "LUT_1D_SIZE +2") 6 6 1
    ∷ refused (bytes "LUT_1D_SIZE 1") 6 7 1
    ∷ refused (bytes "DOMAIN_MAX 1 1 10.001") 6 8 1
    ∷ refused (bytes "LUT_1D_SIZE 2\nDOMAIN_MIN 0 1 0\nDOMAIN_MAX 1 1 1\n0 0 0") 6 10 4
    ∷ refused (bytes "LUT_1D_SIZE 2\nDOMAIN_MIN -9.5 0 0\nDOMAIN_MAX 1 1 1\n\n") 6 11 5
    ∷ refused (bytes "LUT_3D_SIZE 2\nDOMAIN_MIN 0 0 0\nDOMAIN_MAX 1 1.5 1\n0 0 0") 24 12 4
    ∷ refused (bytes "LUT_3D_SIZE 2\n0 0 0") 23 13 2
    ∷ refused (bytes "LUT_1D_SIZE 2\n0 0 0\n0 0 0\n0 0 0") 6 14 4
    ∷ refused (bytes "LUT_1D_SIZE 2\n. 0 0") 6 15 2
    ∷ refused (bytes "LUT_1D_SIZE 2\n0 0 0") 6 18 2
    ∷ look_refused (described_by zero_and_half) (same_bits 9) (grey 1) 20
    ∷ look_refused (described_by zero_and_half) (same_bits 8) (grey 256) 23
    ∷ look_refused one_row (same_bits 9) (grey 256) 24
    ∷ pictured (described_by zero_and_half) (same_bits 9) (1 ∷ 3 ∷ 1 ∷ 256 ∷ []) 3 20 (77 ∷ 77 ∷ 77 ∷ [])
    ∷ pictured (described_by zero_and_half) (same_bits 8) (1 ∷ 3 ∷ 1 ∷ 256 ∷ []) 3 21 (77 ∷ 77 ∷ 77 ∷ [])
    ∷ pictured (described_by zero_and_half) (same_bits 8) (1 ∷ 3 ∷ 256 ∷ []) 2 22 (77 ∷ 77 ∷ [])
    ∷ pictured (described_by zero_and_half) (same_bits 8) (1 ∷ 3 ∷ 256 ∷ []) 3 23 (77 ∷ 77 ∷ 77 ∷ [])
    ∷ pictured one_row (same_bits 9) (1 ∷ 3 ∷ 1 ∷ 256 ∷ []) 3 24 (77 ∷ 77 ∷ 77 ∷ [])
    ∷ pictured (described_by zero_and_half) (same_bits 8) (1 ∷ 3 ∷ 1 ∷ 3 ∷ 1 ∷ 3 ∷ []) 7 0 (1 ∷ 2 ∷ 1 ∷ 2 ∷ 1 ∷ 2 ∷ 77 ∷ [])
    ∷ pictured (described_by zero_and_half) (same_bits 8) [] 1 0 (77 ∷ [])
    ∷ []

-- ---- document 02, Req 01: digits and a bare point are a number, a lone point is none, and N stays digits alone

abbrev pub points : List Case
points =
    word "5." 0 0 (pos 50_000_000 ∷ replicate 5 (pos 0))
    ∷ word "0." 0 0 (replicate 6 (pos 0))
    ∷ word "-5." 0 0 (negsuc 49_999_999 ∷ replicate 5 (pos 0))
    ∷ word "+12.e1" 0 0 (pos 1_200_000_000 ∷ replicate 5 (pos 0))
    ∷ word "7.E-2" 0 0 (pos 700_000 ∷ replicate 5 (pos 0))
    ∷ word "+12.e3" 16 2 (untouched 6)
    ∷ word "1.e-8" 17 2 (untouched 6)
    ∷ word "." 15 2 (untouched 6)
    ∷ word "-." 15 2 (untouched 6)
    ∷ word ".e1" 15 2 (untouched 6)
    ∷ word "+.E2" 15 2 (untouched 6)
    ∷ word "1.x" 15 2 (untouched 6)
    ∷ refused (bytes "LUT_1D_SIZE 2.") 6 6 1
    ∷ refused (bytes "DOMAIN_MAX . 1 1") 6 6 1
    ∷ refused (bytes "DOMAIN_MAX 11. 1 1") 6 8 1
    ∷ record {
      asked = reading (bytes "DOMAIN_MIN -1. 0. 0\nDOMAIN_MAX 2. 2. 2.\nLUT_1D_SIZE 2\n0. 0. 0.\n1. 1.e0 1.") 6;
      expected = record { number = 0; line = 0; table = replicate 3 (pos 0) ++ replicate 3 (pos 10_000_000); codes = []; rows = []; weights = []; text = []; count = 0 };
    }
    ∷ []

-- ---- document 02, Req 05: one line of the domain and not the other

-- the table that a station sent
abbrev pub no_upper : String
no_upper = "DOMAIN_MIN -1 -1 -1\nLUT_1D_SIZE 2\n0 0 0\n1 1 1\n"

-- at the first data line, and at the end without data; after 9, before 10 to 13, 15 and 18; the other line may not come later; both lines are read as before
abbrev pub halves : List Case
halves =
    refused (bytes no_upper) 6 19 3
    ∷ refused (bytes "LUT_1D_SIZE 2\nDOMAIN_MAX 2 2 2\n# no data\n\n0 0 0") 6 19 5
    ∷ refused (bytes "LUT_1D_SIZE 2\nDOMAIN_MAX 2 2 2\n") 6 19 3
    ∷ refused (bytes "DOMAIN_MIN -1 -1 -1\nLUT_1D_SIZE 2") 6 19 2
    ∷ refused (bytes "DOMAIN_MIN -1 -1 -1\n0 0 0") 6 9 2
    ∷ refused (bytes "DOMAIN_MAX 2 2 2") 6 9 1
    ∷ refused (bytes "DOMAIN_MIN 0 1 0\nLUT_1D_SIZE 2\n0 0 0") 6 19 3
    ∷ refused (bytes "DOMAIN_MAX 1 0 1\nLUT_1D_SIZE 2") 6 19 2
    ∷ refused (bytes "DOMAIN_MIN -9.5 0 0\nLUT_1D_SIZE 2\n0 0 0") 6 19 3
    ∷ refused (bytes "DOMAIN_MAX 1 1.5 1\nLUT_3D_SIZE 2\n0 0 0") 24 19 3
    ∷ refused (bytes "DOMAIN_MAX 2 2 2\nLUT_3D_SIZE 2\n0 0 0") 23 19 3
    ∷ refused (bytes "DOMAIN_MAX 2 2 2\nLUT_1D_SIZE 2\n. 0 0") 6 19 3
    ∷ refused (bytes "DOMAIN_MAX 2 2 2\nLUT_1D_SIZE 2\n0 0 0\r") 6 2 3
    ∷ refused (bytes "DOMAIN_MIN 0 0 0\nLUT_1D_SIZE 2\n0 0 0\nDOMAIN_MAX 1 1 1") 6 19 3
    ∷ refused (bytes "DOMAIN_MIN 0 0 0\nDOMAIN_MIN 0 0 0\nLUT_1D_SIZE 2\n0 0 0") 6 5 2
    ∷ record {
      asked = reading (bytes "DOMAIN_MIN 0 0 0\nDOMAIN_MAX 1 1 1\nLUT_1D_SIZE 2\n0 0 0\n1 1 1") 6;
      expected = record { number = 0; line = 0; table = replicate 3 (pos 0) ++ replicate 3 (pos 10_000_000); codes = []; rows = []; weights = []; text = []; count = 0 };
    }
    ∷ []

-- ---- document 02, Req 06: two depths

-- half of 65535 is 32767.5, a sixth of it 10922.5, half of 255 is 127.5: each goes to the greater code. 23 goes by the raw M, and both depths are tried before it.
abbrev pub two_depths : List Case
two_depths =
    two_rows zero_and_half (bits_of 8 16) 255 32768 0 255_000
    ∷ two_rows zero_and_half (bits_of 12 16) 1365 10923 2_730_000 1_365_000
    ∷ two_rows zero_and_half (bits_of 16 8) 65535 128 0 65_535_000
    ∷ two_rows zero_and_half (bits_of 16 8) 256 0 65_279_000 256_000
    ∷ looked corner (bits_of 12 8) (record { red = 819; green = 1638; blue = 3276 }) (51 ∷ 51 ∷ 51 ∷ []) (0 ∷ 4 ∷ 6 ∷ 7 ∷ 0 ∷ 0 ∷ [])
    (pos 819_000 ∷ pos 1_638_000 ∷ pos 819_000 ∷ pos 819_000 ∷ pos 0 ∷ pos 0 ∷ [])
    ∷ look_refused (described_by zero_and_half) (bits_of 9 8) (grey 256) 20
    ∷ look_refused (described_by zero_and_half) (bits_of 8 9) (grey 256) 20
    ∷ look_refused (described_by zero_and_half) (bits_of 8 16) (grey 256) 23
    ∷ pictured (described_by zero_and_half) (bits_of 8 16) (1 ∷ 3 ∷ 255 ∷ []) 4 0 (129 ∷ 386 ∷ 32768 ∷ 77 ∷ [])
    ∷ pictured (described_by zero_and_half) (bits_of 16 8) (0 ∷ 256 ∷ 65535 ∷ []) 3 0 (0 ∷ 0 ∷ 128 ∷ [])
    ∷ pictured (described_by zero_and_half) (bits_of 9 8) (1 ∷ 3 ∷ 1 ∷ 256 ∷ []) 3 20 (77 ∷ 77 ∷ 77 ∷ [])
    ∷ pictured (described_by zero_and_half) (bits_of 8 9) (1 ∷ 3 ∷ 1 ∷ 256 ∷ []) 3 20 (77 ∷ 77 ∷ 77 ∷ [])
    ∷ pictured (described_by zero_and_half) (bits_of 8 16) (1 ∷ 3 ∷ 256 ∷ []) 3 23 (77 ∷ 77 ∷ 77 ∷ [])
    ∷ []

-- ---- document 02, Req 07: 3D tables whose domains differ

-- one domain whose bounds are not whole
abbrev pub one_uneven : String
one_uneven = "LUT_3D_SIZE 2\nDOMAIN_MIN 0 0 0\nDOMAIN_MAX 1.5 1.5 1.5\n0 0 0\n0 0 0\n1 1 1\n0 0 0\n0 0 0\n0 0 0\n0 0 0\n1 1 1\n"

-- two colours have one domain whose bounds are not whole, and the third one as wide
abbrev pub uneven_beside_whole : String
uneven_beside_whole = "LUT_3D_SIZE 2\nDOMAIN_MIN 0 0.5 0.5\nDOMAIN_MAX 1 1.5 1.5\n0 0 0"

-- a picture of a file, corrected at 8 bits, and what the output holds afterwards
abbrev pub painted : String → List ℕ → ℕ → List ℕ → Case
painted file src places after = record {
  asked = picturing (described_by file) (table_from file) (same_bits 8) src places;
  expected = record { number = 0; line = 0; table = []; codes = after; rows = []; weights = []; text = []; count = 0 };
}

-- Red to 2 beside 1: D is 255·2·1·1, and a red code counts once, the others twice, so 204, 306 and 102; rows 2 and 7 are 1, so the value is 204 of 510. Red and
-- green at 204 both: red stands first. At 16 bits two fifths are 26214. Green from 1 to 2: below its bound, so its fraction is 0, and D is 255. Widths of 2, of
-- red from -1 and the others from 0: D is 255·8, and 51 in red is 306 of 510. One domain to 2, or to 1.5, keeps D in thousandths.
abbrev pub mixed : List Case
mixed =
    looked red_wider (same_bits 8) green_first (102 ∷ 102 ∷ 102 ∷ []) (0 ∷ 2 ∷ 3 ∷ 7 ∷ 0 ∷ 0 ∷ []) (pos 204 ∷ pos 102 ∷ pos 102 ∷ pos 102 ∷ pos 0 ∷ pos 0 ∷ [])
    ∷ looked red_wider (bits_of 8 16) green_first (26214 ∷ 26214 ∷ 26214 ∷ []) (0 ∷ 2 ∷ 3 ∷ 7 ∷ 0 ∷ 0 ∷ []) (pos 204 ∷ pos 102 ∷ pos 102 ∷ pos 102 ∷ pos 0 ∷ pos 0 ∷ [])
    ∷ looked red_wider (same_bits 8) (record { red = 204; green = 102; blue = 51 }) (51 ∷ 51 ∷ 51 ∷ []) (0 ∷ 1 ∷ 3 ∷ 7 ∷ 0 ∷ 0 ∷ [])
    (pos 306 ∷ pos 0 ∷ pos 102 ∷ pos 102 ∷ pos 0 ∷ pos 0 ∷ [])
    ∷ looked green_higher (same_bits 8) green_first (0 ∷ 0 ∷ 0 ∷ []) (0 ∷ 1 ∷ 5 ∷ 7 ∷ 0 ∷ 0 ∷ []) (pos 51 ∷ pos 153 ∷ pos 51 ∷ pos 0 ∷ pos 0 ∷ pos 0 ∷ [])
    ∷ looked red_lower (same_bits 8) (record { red = 51; green = 255; blue = 51 }) (26 ∷ 26 ∷ 26 ∷ []) (0 ∷ 1 ∷ 3 ∷ 7 ∷ 0 ∷ 0 ∷ [])
    (pos 816 ∷ pos 204 ∷ pos 816 ∷ pos 204 ∷ pos 0 ∷ pos 0 ∷ [])
    ∷ looked all_wider (same_bits 8) green_first (26 ∷ 26 ∷ 26 ∷ []) (0 ∷ 1 ∷ 3 ∷ 7 ∷ 0 ∷ 0 ∷ []) (pos 306_000 ∷ pos 51_000 ∷ pos 102_000 ∷ pos 51_000 ∷ pos 0 ∷ pos 0 ∷ [])
    ∷ looked one_uneven (same_bits 8) green_first (34 ∷ 34 ∷ 34 ∷ []) (0 ∷ 1 ∷ 3 ∷ 7 ∷ 0 ∷ 0 ∷ []) (pos 178_500 ∷ pos 51_000 ∷ pos 102_000 ∷ pos 51_000 ∷ pos 0 ∷ pos 0 ∷ [])
    ∷ painted red_wider (204 ∷ 153 ∷ 51 ∷ 204 ∷ 102 ∷ 51 ∷ []) 7 (102 ∷ 102 ∷ 102 ∷ 51 ∷ 51 ∷ 51 ∷ 77 ∷ [])
    ∷ look_refused (cube_to 2000 1000 1500) (same_bits 9) (grey 256) 24
    ∷ pictured (cube_to 2000 1000 1500) (same_bits 8) (1 ∷ 3 ∷ 1 ∷ []) 3 24 (77 ∷ 77 ∷ 77 ∷ [])
    ∷ refused (bytes "LUT_3D_SIZE 2\nDOMAIN_MIN 0 0 0\nDOMAIN_MAX 2 1 1.5\n0 0 0") 24 12 4
    ∷ refused (bytes "LUT_3D_SIZE 2\nDOMAIN_MIN 0.001 0 0\nDOMAIN_MAX 2 1 1\n") 24 12 4
    ∷ refused (bytes uneven_beside_whole) 24 12 4
    ∷ refused (bytes uneven_beside_whole) 23 12 4
    ∷ refused (bytes "LUT_3D_SIZE 2\nDOMAIN_MIN 0 0 -9.5\nDOMAIN_MAX 1 1 1\n0 0 0") 24 11 4
    ∷ refused (bytes red_wider) 23 13 4
    ∷ refused (bytes "LUT_3D_SIZE 2\nDOMAIN_MIN 0 0 0\nDOMAIN_MAX 2 1 1\n0 0") 24 15 4
    ∷ refused (bytes "LUT_3D_SIZE 2\nDOMAIN_MIN 0 0 0\nDOMAIN_MAX 2 1 1\n") 24 18 4
    ∷ []

-- ---- document 02, Req 02: tables that are written

-- a text, with so many bytes to spare
abbrev pub wrote : Description → List ℤ → List ℕ → ℕ → String → Case
wrote d table title spare text = record {
  asked = writing d table title (length (bytes text) + spare);
  expected = record {
    number = 0;
    line = 0;
    table = [];
    codes = [];
    rows = [];
    weights = [];
    text = bytes text ++ replicate spare 77;
    count = length (bytes text);
  };
}

-- a refusal, with so many lent bytes
abbrev pub not_written : Description → List ℤ → List ℕ → ℕ → ℕ → Case
not_written d table title places number = record {
  asked = writing d table title places;
  expected = record { number = number; line = 0; table = []; codes = []; rows = []; weights = []; text = replicate places 77; count = 0 };
}

-- the file of two rows again, with both lines of its domain
abbrev pub zero_and_half_text : String
zero_and_half_text = "LUT_1D_SIZE 2\nDOMAIN_MIN 0 0 0\nDOMAIN_MAX 1 1 1\n0 0 0\n0.5 0.5 0.5\n"

-- with a title
abbrev pub titled_half : String
titled_half = "TITLE \"a\"\nLUT_1D_SIZE 2\n0 0 0\n0.5 0.5 0.5\n"

-- 0, -0.5 and 1; one ten-millionth, the least sample, and the greatest but one
abbrev pub far_apart : List ℤ
far_apart = pos 0 ∷ negsuc 4_999_999 ∷ pos 10_000_000 ∷ pos 1 ∷ negsuc 9_999_999_999 ∷ pos 9_999_999_999 ∷ []

-- Without the mark a title is neither written nor judged. A title of two letters where the description's own had one. Two files that were written so before: an
-- empty title and a lower bound below 0, and 3D domains that differ. Room for the text to the byte, and one byte less. 24 before 27 before 13; 27 for a quote, a
-- tab and 243 bytes, and not for 242.
abbrev pub written : List Case
written =
    wrote (described_by zero_and_half) (table_from zero_and_half) (bytes "a \"quote\"") 2 zero_and_half_text
    ∷ wrote (described_by zero_and_half) far_apart [] 0 "LUT_1D_SIZE 2\nDOMAIN_MIN 0 0 0\nDOMAIN_MAX 1 1 1\n0 -0.5 1\n0.0000001 -1000 999.9999999\n"
    ∷ wrote (described_by titled_half) (table_from titled_half) (bytes "Hi") 1 "TITLE \"Hi\"\nLUT_1D_SIZE 2\nDOMAIN_MIN 0 0 0\nDOMAIN_MAX 1 1 1\n0 0 0\n0.5 0.5 0.5\n"
    ∷ wrote (described_by half_below) (table_from half_below) [] 0 half_below
    ∷ wrote (described_by red_wider) (table_from red_wider) [] 0 red_wider
    ∷ wrote (described_by zero_and_half) (table_from zero_and_half) [] 0 zero_and_half_text
    ∷ not_written (described_by zero_and_half) (table_from zero_and_half) [] 65 13
    ∷ not_written (described_by titled_half) (replicate 5 (pos 0)) (bytes "\"") 3 24
    ∷ not_written (described_by titled_half) (table_from titled_half) (bytes "a\"b") 3 27
    ∷ not_written (described_by titled_half) (table_from titled_half) (bytes "a\tb") 100 27
    ∷ not_written (described_by titled_half) (table_from titled_half) (replicate 243 65) 3 27
    ∷ not_written (described_by titled_half) (table_from titled_half) (replicate 242 65) 3 13
    ∷ []

-- ---- document 02, Req 09: the two halves of a look

-- the rows and weights of a pixel at a raw depth
abbrev pub found : String → ℕ → Codes → List ℕ → List ℤ → Case
found file raw pixel rows weights = record {
  asked = finding (described_by file) (table_from file) raw pixel;
  expected = record { number = 0; line = 0; table = []; codes = []; rows = rows; weights = weights; text = []; count = 0 };
}

-- a refusal, of the table of two rows, gives zeros
abbrev pub not_found : Description → ℕ → Codes → ℕ → Case
not_found d raw pixel number = record {
  asked = finding d (table_from zero_and_half) raw pixel;
  expected = record { number = number; line = 0; table = []; codes = []; rows = replicate 6 0; weights = replicate 6 (pos 0); text = []; count = 0 };
}

-- the codes of six rows and six weights
abbrev pub gave : String → Bits → List ℕ → List ℤ → List ℕ → Case
gave file bits rows weights codes = record {
  asked = giving (described_by file) (table_from file) bits rows weights;
  expected = record { number = 0; line = 0; table = []; codes = codes; rows = []; weights = []; text = []; count = 0 };
}

-- a refusal gives zeros here too
abbrev pub not_given : Description → List ℤ → Bits → List ℕ → List ℤ → ℕ → Case
not_given d table bits rows weights number = record {
  asked = giving d table bits rows weights;
  expected = record { number = number; line = 0; table = []; codes = replicate 3 0; rows = []; weights = []; text = []; count = 0 };
}

-- 26, with D of 8 bits
abbrev pub wrong : String → List ℕ → List ℤ → Case
wrong file rows weights = not_given (described_by file) (table_from file) (same_bits 8) rows weights 26

-- the rule's own rows and weights of that pixel
abbrev pub corner_rows : List ℕ
corner_rows = 0 ∷ 4 ∷ 6 ∷ 7 ∷ 0 ∷ 0 ∷ []

abbrev pub corner_weights : List ℤ
corner_weights = pos 51_000 ∷ pos 102_000 ∷ pos 51_000 ∷ pos 51_000 ∷ pos 0 ∷ pos 0 ∷ []

-- of sample A.3, where each colour has its own D
abbrev pub rows_a3 : List ℕ
rows_a3 = 1 ∷ 2 ∷ 1 ∷ 2 ∷ 0 ∷ 1 ∷ []

abbrev pub weights_a3 : List ℤ
weights_a3 = pos 0 ∷ pos 255_000 ∷ pos 510_000 ∷ pos 0 ∷ pos 255_000 ∷ pos 510_000 ∷ []

-- The first half: 1D and 3D; a code above M in blue alone; 20 before 23, and 24 before both.
-- The second: the rule's own rows and weights, one time at two depths; others that add up to D, by which blue is 63.75, and of which row 7 of 3D carries 155 parts
-- of 255; anything at all in the last two places of 3D. 24 before 20, for either depth, before 26. 26 where the raw depth is another than that of the weights, for
-- the row after the last, also where it carries nothing, a negative weight whose sum is right, a sum one below and one above, and the D of another colour.
abbrev pub two_halves : List Case
two_halves =
    found zero_and_half 8 (grey 1) (thrice 0 1) (thrice (pos 254_000) (pos 1_000))
    ∷ found sample_a3 8 (grey 255) rows_a3 weights_a3
    ∷ found corner 8 corner_pixel corner_rows corner_weights
    ∷ not_found (described_by zero_and_half) 8 (record { red = 0; green = 0; blue = 256 }) 23
    ∷ not_found (described_by zero_and_half) 9 (grey 256) 20
    ∷ not_found one_row 9 (grey 256) 24
    ∷ gave zero_and_half (same_bits 8) (thrice 0 1) (thrice (pos 254_000) (pos 1_000)) (1 ∷ 1 ∷ 1 ∷ [])
    ∷ gave sample_a3 (same_bits 8) rows_a3 weights_a3 (255 ∷ 255 ∷ 255 ∷ [])
    ∷ gave corner (bits_of 8 16) corner_rows corner_weights (13107 ∷ 13107 ∷ 13107 ∷ [])
    ∷ gave zero_and_half (same_bits 8) (1 ∷ 1 ∷ 0 ∷ 0 ∷ 1 ∷ 0 ∷ []) (pos 255_000 ∷ pos 0 ∷ pos 0 ∷ pos 255_000 ∷ pos 127_500 ∷ pos 127_500 ∷ []) (128 ∷ 0 ∷ 64 ∷ [])
    ∷ gave corner (same_bits 8) (7 ∷ 3 ∷ 7 ∷ 0 ∷ 0 ∷ 0 ∷ []) (pos 100_000 ∷ pos 100_000 ∷ pos 55_000 ∷ pos 0 ∷ pos 0 ∷ pos 0 ∷ []) (155 ∷ 155 ∷ 155 ∷ [])
    ∷ gave corner (same_bits 8) (0 ∷ 4 ∷ 6 ∷ 7 ∷ 8 ∷ 4_000_000_000 ∷ []) (pos 51_000 ∷ pos 102_000 ∷ pos 51_000 ∷ pos 51_000 ∷ negsuc 4 ∷ pos 9 ∷ []) (51 ∷ 51 ∷ 51 ∷ [])
    ∷ not_given one_row (table_from zero_and_half) (same_bits 9) (thrice 0 2) (thrice (pos 0) (pos 0)) 24
    ∷ not_given (described_by zero_and_half) (table_from zero_and_half) (bits_of 9 8) (thrice 0 2) (thrice (pos 0) (pos 0)) 20
    ∷ not_given (described_by zero_and_half) (table_from zero_and_half) (bits_of 8 9) (thrice 0 2) (thrice (pos 0) (pos 0)) 20
    ∷ not_given (described_by zero_and_half) (table_from zero_and_half) (bits_of 16 8) (thrice 0 1) (thrice (pos 254_000) (pos 1_000)) 26
    ∷ wrong zero_and_half (0 ∷ 1 ∷ 0 ∷ 1 ∷ 0 ∷ 2 ∷ []) (thrice (pos 254_000) (pos 1_000))
    ∷ wrong zero_and_half (0 ∷ 1 ∷ 2 ∷ 1 ∷ 0 ∷ 1 ∷ []) (thrice (pos 0) (pos 255_000))
    ∷ wrong zero_and_half (thrice 0 1) (pos 255_001 ∷ negsuc 0 ∷ pos 255_000 ∷ pos 0 ∷ pos 255_000 ∷ pos 0 ∷ [])
    ∷ wrong zero_and_half (thrice 0 1) (pos 255_000 ∷ pos 0 ∷ pos 255_000 ∷ pos 0 ∷ pos 254_000 ∷ pos 999 ∷ [])
    ∷ wrong zero_and_half (thrice 0 1) (pos 255_000 ∷ pos 0 ∷ pos 254_000 ∷ pos 1_001 ∷ pos 255_000 ∷ pos 0 ∷ [])
    ∷ wrong sample_a3 rows_a3 (thrice (pos 0) (pos 255_000))
    ∷ wrong corner (0 ∷ 4 ∷ 6 ∷ 8 ∷ 0 ∷ 0 ∷ []) (pos 102_000 ∷ pos 102_000 ∷ pos 51_000 ∷ pos 0 ∷ pos 0 ∷ pos 0 ∷ [])
    ∷ wrong corner corner_rows (pos 102_000 ∷ pos 204_000 ∷ negsuc 101_999 ∷ pos 51_000 ∷ pos 0 ∷ pos 0 ∷ [])
    ∷ wrong corner corner_rows (pos 51_000 ∷ pos 102_000 ∷ pos 51_000 ∷ pos 50_999 ∷ pos 1 ∷ pos 0 ∷ [])
    ∷ wrong corner corner_rows (pos 51_001 ∷ pos 102_000 ∷ pos 51_000 ∷ pos 51_000 ∷ pos 0 ∷ pos 0 ∷ [])
    ∷ []

-- ---- document 02, Req 04: the inverse on one colour of a 1D table

-- a raw code is corrected to half of it in red, to itself in green, and to twice it in blue
abbrev pub three_slopes : String
three_slopes = "LUT_1D_SIZE 2\n0 0 0\n0.5 1 2\n"

-- to what is left up to M
abbrev pub falling : String
falling = "LUT_1D_SIZE 2\n1 1 1\n0 0 0\n"

-- to a fifth of M, whichever it is
abbrev pub flat : String
flat = "LUT_1D_SIZE 2\n0.2 0.2 0.2\n0.2 0.2 0.2\n"

-- to 0 in the lower half of the raw codes
abbrev pub flat_then_steep : String
flat_then_steep = "LUT_1D_SIZE 3\n0 0 0\n0 0 0\n1 1 1\n"

-- to twice it in the lower half, and down to 0 again in the upper
abbrev pub peak : String
peak = "LUT_1D_SIZE 3\n0 0 0\n1 1 1\n0 0 0\n"

-- a raw code for a wanted one, within so many codes, and how many were tried
abbrev pub inverted : String → Bits → Colour → ℕ → ℕ → ℕ → ℕ → Case
inverted file bits c wanted tolerance code count = record {
  asked = inverting (described_by file) (table_from file) bits (aim_at c wanted tolerance);
  expected = record { number = 0; line = 0; table = []; codes = code ∷ []; rows = []; weights = []; text = []; count = count };
}

-- a refusal gives code 0, and 28 the count of codes tried, the others 0
abbrev pub not_inverted : Description → List ℤ → Bits → Colour → ℕ → ℕ → ℕ → ℕ → Case
not_inverted d table bits c wanted tolerance number count = record {
  asked = inverting d table bits (aim_at c wanted tolerance);
  expected = record { number = number; line = 0; table = []; codes = 0 ∷ []; rows = []; weights = []; text = []; count = count };
}

-- 28, after all of 256 codes
abbrev pub unreached : String → Bits → Colour → ℕ → ℕ → Case
unreached file bits c wanted tolerance = not_inverted (described_by file) (table_from file) bits c wanted tolerance 28 256

-- Green: code 0 is the first that is tried, so code 5 the sixth. Red: codes 0 to 4 give 0, 1, 1, 2, 2, so that 2 is hit at 3 and not again at 4, and that code 1
-- comes within a tolerance of 1 changes nothing. Blue: 127 gives 254, and 128 the 255 that 256 is held to; 1 lies between the 0 and 2 of codes 0 and 1, equally
-- near, and as nothing hits it 256 codes are tried. Red again: code 255 gives 128, the greatest there is, so 130 is reached within 2 and not within 1.
-- Falling: code 5 gives 250. Flat: every code gives 51, so that the first is answered, with a hit or without one. Flat, then steep: codes 0 to 127 give 0; code 128
-- stands a 255th of the way from the second row to the third and gives 1. A peak: code 2 gives 4, and so does code 253.
-- From 8 to 10 bits code k gives 4·k and little more, so 6 lies between the 4 and 8 of codes 1 and 2, 2 from either. From 10 to 8 bits codes 0 to 2 give less than
-- a half, and 3 gives 1. 23 goes by the corrected M, with any tolerance; either depth is tried before it, and before both that the table could be read and is 1D.
abbrev pub inverses : List Case
inverses =
    inverted three_slopes (same_bits 8) Green 0 0 0 1
    ∷ inverted three_slopes (same_bits 8) Green 5 0 5 6
    ∷ inverted three_slopes (same_bits 8) Red 2 0 3 4
    ∷ inverted three_slopes (same_bits 8) Red 2 1 3 4
    ∷ inverted three_slopes (same_bits 8) Blue 255 0 128 129
    ∷ inverted three_slopes (same_bits 8) Blue 1 1 0 256
    ∷ unreached three_slopes (same_bits 8) Blue 1 0
    ∷ inverted three_slopes (same_bits 8) Red 130 2 255 256
    ∷ unreached three_slopes (same_bits 8) Red 130 1
    ∷ inverted falling (same_bits 8) Red 250 0 5 6
    ∷ inverted flat (same_bits 8) Blue 51 0 0 1
    ∷ inverted flat (same_bits 8) Blue 48 3 0 256
    ∷ unreached flat (same_bits 8) Blue 54 2
    ∷ inverted flat_then_steep (same_bits 8) Green 1 0 128 129
    ∷ inverted peak (same_bits 8) Green 4 0 2 3
    ∷ inverted three_slopes (bits_of 8 10) Green 6 2 1 256
    ∷ unreached three_slopes (bits_of 8 10) Green 6 1
    ∷ inverted three_slopes (bits_of 10 8) Green 1 0 3 4
    ∷ not_inverted (described_by three_slopes) (table_from three_slopes) (bits_of 10 8) Green 256 4_294_967_295 23 0
    ∷ not_inverted (described_by three_slopes) (table_from three_slopes) (bits_of 9 8) Green 256 0 20 0
    ∷ not_inverted (described_by three_slopes) (table_from three_slopes) (bits_of 8 9) Green 256 0 20 0
    ∷ not_inverted one_row (table_from three_slopes) (same_bits 9) Green 256 0 24 0
    ∷ not_inverted (described_by corner) (table_from corner) (same_bits 8) Green 0 0 24 0
    ∷ []

-- ---- what the report program prints

-- of document 01's 3D file
abbrev pub corner_report : String
corner_report = "cube\t3D\t2\t8\ndomain\tred\t0\t1000\ndomain\tgreen\t0\t1000\ndomain\tblue\t0\t1000\ntitle\tno\n"

-- of sample A.3, with a title
abbrev pub report_a3 : String
report_a3 = "cube\t1D\t3\t3\ndomain\tred\t0\t1000\ndomain\tgreen\t0\t2000\ndomain\tblue\t0\t3000\ntitle\tyes\tDemo\n"

-- of the file with an empty title, and a lower bound below 0
abbrev pub half_below_report : String
half_below_report = "cube\t1D\t2\t2\ndomain\tred\t-500\t1000\ndomain\tgreen\t0\t1000\ndomain\tblue\t0\t1000\ntitle\tyes\t\n"

-- ---- what is asked of a table of cases

-- each case comes out as expected
abbrev pub AllMet : List Case → Type 0
AllMet [] = Unit {0}
AllMet (c ∷ cs) = (outcome c.asked ≡ c.expected) × AllMet cs

-- sample A.3, read whole: its description too
pub record ReadA3 : Type 0 where
  pub answer : read (bytes sample_a3) 10 ≡ Ok (record {
    kind = OneD;
    n = 3;
    red = record { lower = record { 0 = pos 0 }; upper = record { 0 = pos 1000 } };
    green = record { lower = record { 0 = pos 0 }; upper = record { 0 = pos 2000 } };
    blue = record { lower = record { 0 = pos 0 }; upper = record { 0 = pos 3000 } };
    title = record { there = true; place = 7; length = 4 };
  })
  pub table : table_after (bytes sample_a3) (untouched 10) (read (bytes sample_a3) 10) ≡
      pos 0 ∷ pos 0 ∷ pos 0 ∷ pos 5_000_000 ∷ pos 10_000_000 ∷ pos 15_000_000 ∷ pos 10_000_000 ∷ pos 10_000_000 ∷ pos 10_000_000 ∷ pos 77 ∷ []
