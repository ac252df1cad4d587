-- Document 01, "Answers by number", with the numbers that document 02 adds: for each case of each answer, the paper's number and values.
use Rattle.std.specs.Prelude.{ℕ, ◌*◌, List, [], ◌∷◌, map, ℤ, Err, Ok}
use Rattle.rules.specs.Descriptions.{zeros, rows}
use Rattle.rules.specs.Looking.{six}
use Rattle.rules.specs.declared.Codes.{Codes}
use Rattle.rules.specs.declared.Description.{Description}
use Rattle.rules.specs.declared.Refusal.{Refusal}
use Rattle.rules.specs.declared.Refusal.TheVariants.{LineTooLong, ByteNotPermitted, NeitherDataNorKeyword, KeywordAfterData, KeywordRepeated, ParametersWrong, SizeOutOfRange, DomainNumberWrong, NoSize, LowerNotBelowUpper, DomainTooWide, DomainsDiffer, TooLittleRoom, TooManyRows, NotThreeNumbers, SampleBeyond, SampleTooFine, TooFewRows, HalfADomain, DepthUnknown, PictureNotPixels, OutputTooShort, CodeTooGreat, CouldNotBeRead, RowsOrWeightsWrong, TitleNotPlain, NoneWithinTolerance, InputTooLong}
use Rattle.rules.specs.declared.Share.{Share}
use Rattle.rules.specs.declared.Shares.{Shares}
use Rattle.rules.specs.Results.{FirstHalf, Inverse, Look, Picture, Read, SecondHalf, Write}

unfoldable pub refusal_number : Refusal → ℕ
refusal_number LineTooLong = 1
refusal_number ByteNotPermitted = 2
refusal_number NeitherDataNorKeyword = 3
refusal_number KeywordAfterData = 4
refusal_number KeywordRepeated = 5
refusal_number ParametersWrong = 6
refusal_number SizeOutOfRange = 7
refusal_number DomainNumberWrong = 8
refusal_number NoSize = 9
refusal_number LowerNotBelowUpper = 10
refusal_number DomainTooWide = 11
refusal_number DomainsDiffer = 12
refusal_number TooLittleRoom = 13
refusal_number TooManyRows = 14
refusal_number NotThreeNumbers = 15
refusal_number SampleBeyond = 16
refusal_number SampleTooFine = 17
refusal_number TooFewRows = 18
refusal_number HalfADomain = 19
refusal_number DepthUnknown = 20
refusal_number PictureNotPixels = 21
refusal_number OutputTooShort = 22
refusal_number CodeTooGreat = 23
refusal_number CouldNotBeRead = 24
refusal_number RowsOrWeightsWrong = 26
refusal_number TitleNotPlain = 27
refusal_number NoneWithinTolerance = 28
refusal_number InputTooLong = 30

-- ---- reading: number, line, description; and, of a file that is judged with no table, the places that one needs

abbrev pub read_number : Read → ℕ
read_number (Ok d) = 0
read_number (Err x) = refusal_number x.reason

abbrev pub read_line : Read → ℕ
read_line (Ok d) = 0
read_line (Err x) = x.line

abbrev pub read_description : Read → Description
read_description (Ok d) = d
read_description (Err x) = zeros

-- the places that the file's table needs: three for each row, none of a file that is refused
abbrev pub places_needed : Read → ℕ
places_needed (Ok d) = 3 * rows d
places_needed (Err x) = 0

-- ---- look: number, three codes, six rows, six weights; a refusal gives zeros

abbrev pub look_number : Look → ℕ
look_number (Ok x) = 0
look_number (Err r) = refusal_number r

abbrev pub codes_of : Codes → List ℕ
codes_of c = c.red ∷ c.green ∷ c.blue ∷ []

abbrev pub shares_of : Shares → List Share
shares_of s = s.first ∷ s.second ∷ s.third ∷ s.fourth ∷ s.fifth ∷ s.sixth ∷ []

abbrev no_codes : Codes
no_codes = record { red = 0; green = 0; blue = 0 }

abbrev pub codes_in : Look → Codes
codes_in (Ok x) = x.codes
codes_in (Err r) = no_codes

abbrev pub look_codes : Look → List ℕ
look_codes a = codes_of (codes_in a)

abbrev pub look_shares : Look → List Share
look_shares (Ok x) = shares_of x.shares
look_shares (Err r) = shares_of (six [])

abbrev pub look_rows : Look → List ℕ
look_rows a = map (λ (s : Share). s.row) (look_shares a)

abbrev pub look_weights : Look → List ℤ
look_weights a = map (λ (s : Share). s.weight) (look_shares a)

-- ---- the halves of a look. The first: number, six rows, six weights. The second: number, three codes. A refusal gives zeros

abbrev pub first_number : FirstHalf → ℕ
first_number (Ok s) = 0
first_number (Err r) = refusal_number r

abbrev pub first_shares : FirstHalf → List Share
first_shares (Ok s) = shares_of s
first_shares (Err r) = shares_of (six [])

abbrev pub first_rows : FirstHalf → List ℕ
first_rows a = map (λ (s : Share). s.row) (first_shares a)

abbrev pub first_weights : FirstHalf → List ℤ
first_weights a = map (λ (s : Share). s.weight) (first_shares a)

abbrev pub second_number : SecondHalf → ℕ
second_number (Ok c) = 0
second_number (Err r) = refusal_number r

abbrev pub codes_given : SecondHalf → Codes
codes_given (Ok c) = c
codes_given (Err r) = no_codes

abbrev pub second_codes : SecondHalf → List ℕ
second_codes a = codes_of (codes_given a)

-- ---- picture: number

abbrev pub picture_number : Picture → ℕ
picture_number (Ok _) = 0
picture_number (Err r) = refusal_number r

-- ---- writing: number, and the text's length; a refusal gives 0

abbrev pub write_number : Write → ℕ
write_number (Ok n) = 0
write_number (Err r) = refusal_number r

abbrev pub written_length : Write → ℕ
written_length (Ok n) = n
written_length (Err r) = 0

-- ---- the inverse: number, raw code, and the count of codes tried; 28 gives the count with code 0, and the refusals before it give zeros

abbrev pub inverse_number : Inverse → ℕ
inverse_number (Ok x) = 0
inverse_number (Err x) = refusal_number x.reason

abbrev pub inverse_code : Inverse → ℕ
inverse_code (Ok x) = x.code
inverse_code (Err x) = 0

abbrev pub inverse_count : Inverse → ℕ
inverse_count (Ok x) = x.count
inverse_count (Err x) = x.count
