-- Document 01, "Checked by hand": what the report program answers on its standard input, and the bytes that it prints.
use Rattle.std.specs.Prelude.{ℕ, ◌≡◌, cond, List, [], ◌∷◌, ◌++◌, leb, length, take, drop, Err, Ok}
use Rattle.rules.specs.Units.{rows_of}
use Rattle.rules.specs.Fields.{parted}
use Rattle.rules.specs.Decimals.{decimal, signed_decimal}
use Rattle.rules.specs.Reading.Lines.{bytes}
use Rattle.rules.specs.Reading.{read}
use Rattle.rules.specs.Answers.{read_number, read_line}
use Rattle.rules.specs.declared.Colour.{Colour}
use Rattle.rules.specs.declared.Colour.TheVariants.{Red, Green, Blue}
use Rattle.rules.specs.declared.Description.{Description}
use Rattle.rules.specs.declared.Domain.{Domain}
use Rattle.rules.specs.declared.Kind.{Kind}
use Rattle.rules.specs.declared.Kind.TheVariants.{OneD, ThreeD}
use Rattle.rules.specs.declared.Refusal.TheVariants.{InputTooLong}
use Rattle.rules.specs.declared.Title.{Title}
use Rattle.rules.specs.Results.{Read, refused_on}

-- ---- the answer

-- it reads its input into 65,536 bytes
abbrev pub report_bytes : ℕ
report_bytes = 65_536

-- and has 8,190 table places
abbrev pub report_places : ℕ
report_places = 8_190

-- longer input is 30 on line 0
unfoldable pub report : List ℕ → Read
report input = cond (leb (length input) report_bytes) (read input report_places) (refused_on InputTooLong 0)

-- ---- lines

-- fields parted by tabs
abbrev pub line_of : List (List ℕ) → List ℕ
line_of fields = parted 9 fields

abbrev pub kind_name : Kind → List ℕ
kind_name OneD = bytes "1D"
kind_name ThreeD = bytes "3D"

abbrev pub colour_name : Colour → List ℕ
colour_name Red = bytes "red"
colour_name Green = bytes "green"
colour_name Blue = bytes "blue"

-- kind, N, rows
unfoldable pub cube_line : Kind → ℕ → List ℕ
cube_line k n = line_of (bytes "cube" ∷ kind_name k ∷ decimal n ∷ decimal (rows_of k n) ∷ [])

-- colour, lower, upper in thousandths
unfoldable pub domain_line : Colour → Domain → List ℕ
domain_line c dom = line_of (bytes "domain" ∷ colour_name c ∷ signed_decimal dom.lower.0 ∷ signed_decimal dom.upper.0 ∷ [])

-- a line for each colour
unfoldable pub domain_lines : Description → List ℕ
domain_lines d = domain_line Red d.red ++ (domain_line Green d.green ++ domain_line Blue d.blue)

-- with a title: yes, the text
unfoldable pub title_line : List ℕ → Title → List ℕ
title_line input t =
    cond t.there
    (line_of (bytes "title" ∷ bytes "yes" ∷ take t.length (drop t.place input) ∷ []))
    (line_of (bytes "title" ∷ bytes "no" ∷ []))

-- refused, number, line
unfoldable pub refused_line : ℕ → ℕ → List ℕ
refused_line number line = line_of (bytes "refused" ∷ decimal number ∷ decimal line ∷ [])

-- ---- the bytes printed

unfoldable pub answer_text : List ℕ → Read → List ℕ
answer_text input (Ok d) = cube_line d.kind d.n ++ (domain_lines d ++ title_line input d.title)
answer_text input (Err x) = refused_line (read_number (refused_on x.reason x.line)) (read_line (refused_on x.reason x.line))

unfoldable pub report_text : List ℕ → List ℕ
report_text input = answer_text input (report input)

-- reporting on the input into lent bytes answers how many it wrote; the bytes are out' afterwards
pub record Reports (input out : List ℕ) (n : ℕ) (out' : List ℕ) : Type 0 where
  pub count : n ≡ length (report_text input)
  pub memory : out' ≡ report_text input ++ drop n out
