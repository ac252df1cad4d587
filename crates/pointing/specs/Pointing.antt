-- What a refusal points at: a part of the line that it names, as a place and a length.
use Rattle.std.specs.Prelude.{ℕ, zero, suc, ◌+◌, ◌-◌, min, Bool, cond, List, [], ◌∷◌, eqb, leb, length, take, drop, is_ok}
use Rattle.rules.specs.Units.{sample_places, sample_limit, bound_places, bound_limit}
use Rattle.rules.specs.Demands.{is_data}
use Rattle.rules.specs.Reading.Lines.{line_limit, permitted, run, lines_of}
use Rattle.rules.specs.Reading.Numerals.{digits}
use Rattle.rules.specs.Reading.Numbers.{number_of}
use Rattle.rules.specs.Reading.Contents.{form_of, formed}
use Rattle.rules.specs.declared.Form.{Form}
use Rattle.rules.specs.declared.Form.TheVariants.{Idle, Keyed, Data, Neither}
use Rattle.rules.specs.declared.Keyword.TheVariants.{ATitle, ALower, AnUpper, ASize}
use Rattle.text.specs.WordsFrom.{word_start, word_end}
use Rattle.pointing.specs.declared.aims.Aim.{Aim}
use Rattle.pointing.specs.declared.aims.Aim.TheVariants.{Byte, FirstWord, Parameters, SecondWord, BoundValue, SampleForm, SampleValue, End, RowOrEnd}
use Rattle.pointing.specs.declared.spots.Spot.{Spot}
use Rattle.pointing.specs.declared.words.Wanted.{Wanted}
use Rattle.pointing.specs.declared.words.Wanted.TheVariants as W
use Rattle.rules.specs.Results.{Number}

-- ---- parts of a line

-- the bytes of a part
abbrev pub part : List ℕ → Spot → List ℕ
part l s = take s.length (drop s.place l)

-- from a place on to the end
abbrev pub rest_from : List ℕ → ℕ → Spot
rest_from l p = record { place = p; length = length l - p }

-- the end, where something is missing
abbrev pub end_spot : List ℕ → Spot
end_spot l = rest_from l (length l)

-- the first word from a place on; where there is none, the end
abbrev pub word_spot : List ℕ → ℕ → Spot
word_spot l p = record { place = word_start l p; length = word_end l p - word_start l p }

-- the first byte that is not permitted; where all are, the end
abbrev pub byte_spot : List ℕ → Spot
byte_spot l = let p = length (run permitted l) in record { place = p; length = min 1 (length l - p) }

-- ---- the first word that is wrong

abbrev pub is_value : Number → Bool
is_value n = is_ok n

-- whether a word is what is wanted
unfoldable pub right : Wanted → List ℕ → Bool
right W.Digits w = digits w
right W.BoundForm w = formed (number_of bound_places bound_limit w)
right W.BoundValue w = is_value (number_of bound_places bound_limit w)
right W.SampleForm w = formed (number_of sample_places sample_limit w)
right W.SampleValue w = is_value (number_of sample_places sample_limit w)

-- the first of k words from a place on that is not what is wanted; where all are, the word behind them. A word that is missing is the end.
unfoldable pub first_wrong : Wanted → ℕ → List ℕ → ℕ → Spot
first_wrong wanted zero l p = word_spot l p
first_wrong wanted (suc k) l p = cond (right wanted (part l (word_spot l p))) (first_wrong wanted k l (word_end l p)) (word_spot l p)

-- ---- by the refusal

-- by its number in document 01
unfoldable pub aim_of : ℕ → Aim
aim_of number =
    cond (eqb number 2) Byte
    (cond (leb number 5) FirstWord
    (cond (eqb number 6) Parameters
    (cond (eqb number 7) SecondWord
    (cond (eqb number 8) BoundValue
    (cond (eqb number 15) SampleForm
    (cond (eqb number 16) SampleValue
    (cond (eqb number 17) SampleValue
    (cond (eqb number 18) End RowOrEnd))))))))

-- 6: a title's text with its quotes; N; or one of the three numbers of a domain. Only a keyword has parameters.
abbrev pub parameter_spot : Form → List ℕ → ℕ → Spot
parameter_spot Idle l p = end_spot l
parameter_spot (Keyed ATitle) l p = rest_from l (word_start l p)
parameter_spot (Keyed ALower) l p = first_wrong W.BoundForm 3 l p
parameter_spot (Keyed AnUpper) l p = first_wrong W.BoundForm 3 l p
parameter_spot (Keyed (ASize k)) l p = first_wrong W.Digits 1 l p
parameter_spot Data l p = end_spot l
parameter_spot Neither l p = end_spot l

-- a row's line as a whole; another line is the last one of its file, and then it is the file's end
abbrev pub row_spot : List ℕ → Spot
row_spot l = cond (is_data (form_of l)) (rest_from l 0) (end_spot l)

-- in a line of at most 250 bytes
unfoldable pub aimed_in : Aim → List ℕ → Spot
aimed_in Byte l = byte_spot l
aimed_in FirstWord l = word_spot l 0
aimed_in Parameters l = parameter_spot (form_of l) l (word_end l 0)
aimed_in SecondWord l = word_spot l (word_end l 0)
aimed_in BoundValue l = first_wrong W.BoundValue 3 l (word_end l 0)
aimed_in SampleForm l = first_wrong W.SampleForm 3 l 0
aimed_in SampleValue l = first_wrong W.SampleValue 3 l 0
aimed_in End l = end_spot l
aimed_in RowOrEnd l = row_spot l

-- a longer line is wrong from its byte 250 on
unfoldable pub spot_in : ℕ → List ℕ → Spot
spot_in number l = cond (leb (length l) line_limit) (aimed_in (aim_of number) l) (rest_from l line_limit)

-- ---- in the file

-- the line past so many others, of lines of which the first begins at a place; where there is none, no bytes at the file's start
unfoldable pub line_from : ℕ → ℕ → List (List ℕ) → Spot
line_from p k [] = record { place = 0; length = 0 }
line_from p zero (l ∷ ls) = record { place = p; length = length l }
line_from p (suc k) (l ∷ ls) = line_from (p + length l + 1) k ls

-- line n of a file, counted from 1
abbrev pub line_spot : List ℕ → ℕ → Spot
line_spot file n = line_from 0 (n - 1) (lines_of file)

-- what the refusal with a number and a line points at
unfoldable pub pointed : List ℕ → ℕ → ℕ → Spot
pointed file number n =
    let line = line_spot file n in
    let spot = spot_in number (part file line) in
    record { place = line.place + spot.place; length = spot.length }
