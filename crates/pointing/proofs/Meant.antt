-- What each refusal is about, said of the spot that it points at. Nothing here is shown: `to-the-point` shows it of every refusal of every file.
use Prim.Native.Nat.{ℕ, ◌+◌, ◌≤◌, ◌<◌}
use mathlib.Core.Path.{◌≡◌}
use mathlib.Core.Logic.{◌⊎◌}
use mathlib.Core.Bool.{Bool, true, false}
use mathlib.Core.List.{List, [], ◌∷◌, ◌++◌}
use lib.ListN.{length, take, drop}
use Rattle.rules.specs.Units.{sample_places, sample_limit, bound_places, bound_limit, in_range}
use Rattle.rules.specs.Reading.Lines.{line_limit, permitted, blank, number_byte, in_title, every, starts, words_of}
use Rattle.rules.specs.Reading.Numerals.{digits, spell}
use Rattle.rules.specs.Reading.Numbers.{number_of}
use Rattle.rules.specs.Reading.Items.{named}
use Rattle.rules.specs.Reading.Contents.{form_of, formed}
use Rattle.rules.specs.declared.Form.TheVariants.{Data}
use Rattle.rules.specs.declared.Keyword.{Keyword}
use Rattle.rules.specs.declared.Keyword.TheVariants.{ATitle, ALower, AnUpper, ASize}
use Rattle.rules.specs.declared.Kind.{Kind}
use Rattle.rules.specs.declared.Refusal.{Refusal}
use Rattle.rules.specs.declared.Refusal.TheVariants.{LineTooLong, ByteNotPermitted, NeitherDataNorKeyword, KeywordAfterData, KeywordRepeated, ParametersWrong, SizeOutOfRange, DomainNumberWrong, NoSize, LowerNotBelowUpper, DomainTooWide, DomainsDiffer, TooLittleRoom, TooManyRows, NotThreeNumbers, SampleBeyond, SampleTooFine, TooFewRows, HalfADomain, DepthUnknown, PictureNotPixels, OutputTooShort, CodeTooGreat, CouldNotBeRead, RowsOrWeightsWrong, TitleNotPlain, NoneWithinTolerance, InputTooLong}
use Rattle.pointing.specs.Pointing.{is_value}
use Rattle.pointing.specs.declared.spots.Spot.{Spot}
use Rattle.std.specs.Prelude.{Err}
use Rattle.rules.specs.declared.NumberFault.TheVariants.{Beyond, Finer}

-- ---- a spot of a file, in a line l that begins at place p of it

-- the line is what stands before the spot, its bytes, and what stands after it
pub record Parts (p : ℕ) (l : List ℕ) (s : Spot) (before bytes after : List ℕ) : Type 0 where
  pub line : l ≡ before ++ (bytes ++ after)
  pub place : s.place ≡ p + length before
  pub long : s.length ≡ length bytes

-- the spot is a word of the line: the line's words are those ahead of it, the word, and those after it; something holds of those ahead and the word
pub record AWord (Holds : List (List ℕ) → List ℕ → Type 0) (p : ℕ) (l : List ℕ) (s : Spot) : Type 0 where
  pub before : List ℕ
  pub word : List ℕ
  pub after : List ℕ
  pub parts : Parts p l s before word after
  pub words : words_of l ≡ words_of before ++ (word ∷ words_of after)
  pub holds : Holds (words_of before) word

-- the spot is the line's end, and has no bytes: something is missing there
pub record LineEnd (p : ℕ) (l : List ℕ) (s : Spot) : Type 0 where
  pub place : s.place ≡ p + length l
  pub empty : s.length ≡ 0

-- the spot is the file's end, and has no bytes
pub record FileEnd (file : List ℕ) (s : Spot) : Type 0 where
  pub place : s.place ≡ length file
  pub empty : s.length ≡ 0

-- the line's first word is a keyword
abbrev pub FirstIs : Keyword → List ℕ → Type 0
FirstIs k l = (ws : List (List ℕ)) × (words_of l ≡ named k ∷ ws)

-- ---- 1 and 2

-- the line has more than 250 bytes, and the spot is all that stands past the first 250
pub record TooLong (p : ℕ) (l : List ℕ) (s : Spot) : Type 0 where
  pub longer : line_limit < length l
  pub parts : Parts p l s (take line_limit l) (drop line_limit l) []

-- one byte that is not permitted, and every byte before it in its line is
pub record Forbidden (p : ℕ) (l : List ℕ) (s : Spot) : Type 0 where
  pub before : List ℕ
  pub byte : ℕ
  pub after : List ℕ
  pub parts : Parts p l s before (byte ∷ []) after
  pub not-permitted : permitted byte ≡ false
  pub first : every permitted before ≡ true

-- ---- 3, 4 and 5: the first word

-- it is no keyword and does not start as a number; or there is no word, and the spot is the line's end
pub data Unknown (p : ℕ) (l : List ℕ) (s : Spot) : Type 0 where
  unknown-word : AWord (λ ahead w. (ahead ≡ []) × (starts number_byte w ≡ false) × ((k : Keyword) → w ≡ named k → ⊥)) p l s → Unknown p l s
  blanks-alone : words_of l ≡ [] → LineEnd p l s → Unknown p l s

-- it is a keyword's name
abbrev pub AKeyword : ℕ → List ℕ → Spot → Type 0
AKeyword = AWord (λ ahead w. (ahead ≡ []) × ((k : Keyword) × (w ≡ named k)))

-- ---- 6, 7 and 8: a keyword's parameters; 15, 16 and 17: a row's samples

-- a test comes out true of each word of a list
abbrev pub All : (List ℕ → Bool) → List (List ℕ) → Type 0
All test [] = Unit
All test (w ∷ ws) = (test w ≡ true) × All test ws

-- one of `count` words past the line's first `skip`, with right ones alone between those and it; something holds of it
abbrev pub OneOf : (List ℕ → Bool) → ℕ → ℕ → (List ℕ → Type 0) → ℕ → List ℕ → Spot → Type 0
OneOf right skip count Holds = AWord (λ ahead w. (skip ≤ length ahead) × (length ahead < skip + count) × All right (drop skip ahead) × Holds w)

-- not just `count` words that are right stand past the first `skip`: the spot is the first wrong one; or, where those that are there are right, the line's end in place of the one that is missing, or the one too many
pub data Amiss (right : List ℕ → Bool) (skip count : ℕ) (p : ℕ) (l : List ℕ) (s : Spot) : Type 0 where
  a-wrong-one : OneOf right skip count (λ w. right w ≡ false) p l s → Amiss right skip count p l s
  one-missing : length (words_of l) < skip + count → All right (drop skip (words_of l)) → LineEnd p l s → Amiss right skip count p l s
  one-too-many : AWord (λ ahead w. (length ahead ≡ skip + count) × All right (drop skip ahead)) p l s → Amiss right skip count p l s

-- a number by its form
abbrev pub is_number : ℕ → ℕ → List ℕ → Bool
is_number places limit w = formed (number_of places limit w)

-- a number within the limit and a multiple of the unit
abbrev pub has_value : ℕ → ℕ → List ℕ → Bool
has_value places limit w = is_value (number_of places limit w)

-- past the keyword and the blanks after it the spot is all that is left of the line, and that is no quote, text, quote and blanks
pub record TitleAmiss (p : ℕ) (l : List ℕ) (s : Spot) : Type 0 where
  pub before : List ℕ
  pub text : List ℕ
  pub parts : Parts p l s before text []
  pub keyword : words_of before ≡ named ATitle ∷ []
  pub from-word : starts blank text ≡ false
  pub unquoted : (title trail : List ℕ) → every in_title title ≡ true → every blank trail ≡ true → text ≡ 34 ∷ (title ++ (34 ∷ trail)) → ⊥

-- by the keyword: a title; a domain, of three numbers; a size, of one word with digits alone
pub data ParametersAmiss (p : ℕ) (l : List ℕ) (s : Spot) : Type 0 where
  of-title : FirstIs ATitle l → TitleAmiss p l s → ParametersAmiss p l s
  of-lower : FirstIs ALower l → Amiss (is_number bound_places bound_limit) 1 3 p l s → ParametersAmiss p l s
  of-upper : FirstIs AnUpper l → Amiss (is_number bound_places bound_limit) 1 3 p l s → ParametersAmiss p l s
  of_size : (k : Kind) → FirstIs (ASize k) l → Amiss digits 1 1 p l s → ParametersAmiss p l s

-- a size's only parameter: digits alone, and N by them is out of the kind's range
abbrev pub OutOfRange : List (List ℕ) → List ℕ → Type 0
OutOfRange ahead w = (k : Kind) × (ahead ≡ named (ASize k) ∷ []) × (digits w ≡ true) × (in_range k (spell 0 w) ≡ false)

-- a number of a domain beyond the limit, or within it and no multiple of the unit
abbrev pub NoBound : List ℕ → Type 0
NoBound w = (number_of bound_places bound_limit w ≡ (Err Beyond)) ⊎ (number_of bound_places bound_limit w ≡ (Err Finer))

-- ---- 9, 19 and 10 to 14: where a data line stands

-- a data line as a whole
pub record WholeRow (p : ℕ) (l : List ℕ) (s : Spot) : Type 0 where
  pub row : form_of l ≡ Data
  pub parts : Parts p l s [] l []

-- where the line is no data line, the file's end
pub data RowOrEnd (file : List ℕ) (p : ℕ) (l : List ℕ) (s : Spot) : Type 0 where
  whole_row : WholeRow p l s → RowOrEnd file p l s
  file-end : (form_of l ≡ Data → ⊥) → FileEnd file s → RowOrEnd file p l s

-- ---- by the refusal; no other refuses a file

abbrev pub Meant : Refusal → List ℕ → ℕ → List ℕ → Spot → Type 0
Meant LineTooLong file p l s = TooLong p l s
Meant ByteNotPermitted file p l s = Forbidden p l s
Meant NeitherDataNorKeyword file p l s = Unknown p l s
Meant KeywordAfterData file p l s = AKeyword p l s
Meant KeywordRepeated file p l s = AKeyword p l s
Meant ParametersWrong file p l s = ParametersAmiss p l s
Meant SizeOutOfRange file p l s = (length (words_of l) ≡ 2) × AWord OutOfRange p l s
Meant DomainNumberWrong file p l s = (FirstIs ALower l ⊎ FirstIs AnUpper l) × OneOf (has_value bound_places bound_limit) 1 3 NoBound p l s
Meant NoSize file p l s = RowOrEnd file p l s
Meant HalfADomain file p l s = RowOrEnd file p l s
Meant LowerNotBelowUpper file p l s = RowOrEnd file p l s
Meant DomainTooWide file p l s = RowOrEnd file p l s
Meant DomainsDiffer file p l s = RowOrEnd file p l s
Meant TooLittleRoom file p l s = RowOrEnd file p l s
Meant TooManyRows file p l s = WholeRow p l s
Meant NotThreeNumbers file p l s = Amiss (is_number sample_places sample_limit) 0 3 p l s
Meant SampleBeyond file p l s = OneOf (has_value sample_places sample_limit) 0 3 (λ w. number_of sample_places sample_limit w ≡ (Err Beyond)) p l s
Meant SampleTooFine file p l s = OneOf (has_value sample_places sample_limit) 0 3 (λ w. number_of sample_places sample_limit w ≡ (Err Finer)) p l s
Meant TooFewRows file p l s = FileEnd file s
Meant DepthUnknown file p l s = ⊥
Meant PictureNotPixels file p l s = ⊥
Meant OutputTooShort file p l s = ⊥
Meant CodeTooGreat file p l s = ⊥
Meant CouldNotBeRead file p l s = ⊥
Meant RowsOrWeightsWrong file p l s = ⊥
Meant TitleNotPlain file p l s = ⊥
Meant NoneWithinTolerance file p l s = ⊥
Meant InputTooLong file p l s = ⊥
