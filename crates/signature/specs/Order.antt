-- Document 01, "Answers by number", with document 02's Req 05: the checks 1 to 19 as lists in the order in which they run, and reading's refusal as the first of them that
-- fails, on the first line where one does.
use Rattle.std.specs.Prelude.{ℕ, ◌+◌, ◌*◌, ◌%◌, ◌≡◌, ◌⊎◌, Bool, true, false, cond, not, ◌&&◌, eqb, ltb, leb, length, None, Option, Some}
use mathlib.Core.List.{List, [], ◌∷◌, ◌++◌, flat_map}
use Rattle.rules.specs.Units.{sample_places, sample_limit, bound_places, bound_limit, in_range}
use Rattle.rules.specs.Descriptions.{rows, every_colour, ordered, narrow, agree, roomy}
use Rattle.rules.specs.Reading.Lines.{line_limit, permitted, blank, in_word, in_title, quote, every, after, newlines, lines_of, words_of}
use Rattle.rules.specs.Reading.Numerals.{Numeral, digits, spell, over, under}
use Rattle.rules.specs.Reading.Numbers.{numeral_of}
use Rattle.rules.specs.Reading.Contents.{form_of, closes, parameters}
use Rattle.rules.specs.Reading.Judge.{State, Verdict, start, describe, given, together, repeats, go, judge}
use Rattle.rules.specs.declared.Form.{Form}
use Rattle.rules.specs.declared.Form.TheVariants.{Idle, Keyed, Data, Neither}
use Rattle.rules.specs.declared.Keyword.{Keyword}
use Rattle.rules.specs.declared.Keyword.TheVariants.{ATitle, ALower, AnUpper, ASize}
use Rattle.rules.specs.declared.Kind.{Kind}
use Rattle.rules.specs.declared.Refusal.{Refusal}
use Rattle.rules.specs.declared.Refusal.TheVariants.{LineTooLong, ByteNotPermitted, NeitherDataNorKeyword, KeywordAfterData, KeywordRepeated, ParametersWrong, SizeOutOfRange, DomainNumberWrong, NoSize, HalfADomain, LowerNotBelowUpper, DomainTooWide, DomainsDiffer, TooLittleRoom, TooManyRows, NotThreeNumbers, SampleBeyond, SampleTooFine, TooFewRows}

-- ---- checks

-- whether what it asks for is there, and the refusal where it is not
abbrev pub Check : Type 0
Check = Bool × Refusal

-- each of them finds what it asks for
abbrev pub Met : List Check → Type 0
Met [] = Unit
Met (c ∷ cs) = (c.0 ≡ true) × Met cs

-- one of them fails with this refusal, and those before it are met
pub record FirstFailing (r : Refusal) (checks : List Check) : Type 0 where
  pub before : List Check
  pub test : Bool
  pub later : List Check
  pub parted : checks ≡ before ++ ((test, r) ∷ later)
  pub met : Met before
  pub fails : test ≡ false

-- ---- every line: 1, 2

unfoldable pub byte_checks : List ℕ → List Check
byte_checks l = (leb (length l) line_limit, LineTooLong) ∷ (every permitted l, ByteNotPermitted) ∷ []

-- ---- three numbers

-- a word is a number
abbrev pub is_number : List ℕ → Bool
is_number w = given (numeral_of w)

-- three words, each a number
unfoldable pub three_numbers : List (List ℕ) → Bool
three_numbers [] = false
three_numbers (a ∷ []) = false
three_numbers (a ∷ b ∷ []) = false
three_numbers (a ∷ b ∷ c ∷ []) = is_number a && (is_number b && is_number c)
three_numbers (a ∷ b ∷ c ∷ d ∷ more) = false

-- a test of the number that a word is; a word that is none has failed before
abbrev pub of_number : (Numeral → Bool) → Option Numeral → Bool
of_number test None = false
of_number test (Some n) = test n

-- its value, in units of 10 to the -places, is at most the limit, whatever its sign
unfoldable pub fits : ℕ → ℕ → List ℕ → Bool
fits places limit w = of_number (λ n. leb (over places n) (limit * under n)) (numeral_of w)

-- its value is a multiple of the unit
unfoldable pub multiple : ℕ → List ℕ → Bool
multiple places w = of_number (λ n. eqb (over places n % under n) 0) (numeral_of w)

-- a word's value
abbrev pub value_checks : ℕ → ℕ → Refusal → Refusal → List ℕ → List Check
value_checks places limit beyond finer w = (fits places limit w, beyond) ∷ (multiple places w, finer) ∷ []

-- the form of all three, then the values left to right
unfoldable pub three_checks : ℕ → ℕ → Refusal → Refusal → Refusal → List (List ℕ) → List Check
three_checks places limit unformed beyond finer ws = (three_numbers ws, unformed) ∷ flat_map (value_checks places limit beyond finer) ws

-- ---- a line with a keyword: 4, 5, then its parameters, 6, then 7 or 8

unfoldable pub keyword_checks : Keyword → State → List Check
keyword_checks k st = (eqb st.rows 0, KeywordAfterData) ∷ (not (repeats k st), KeywordRepeated) ∷ []

-- a quote, text, a quote, and blanks alone after it
unfoldable pub quotes : List ℕ → Bool
quotes [] = false
quotes (b ∷ rest) = quote b && closes (after in_title rest)

-- so past the keyword and the blanks after it
unfoldable pub title_formed : List ℕ → Bool
title_formed l = quotes (after blank (after in_word (after blank l)))

-- one word, of which a test is true
unfoldable pub one_word : (List ℕ → Bool) → List (List ℕ) → Bool
one_word test [] = false
one_word test (w ∷ []) = test w
one_word test (w ∷ v ∷ more) = false

unfoldable pub size_checks : Kind → List (List ℕ) → List Check
size_checks k ws = (one_word digits ws, ParametersWrong) ∷ (one_word (λ w. in_range k (spell 0 w)) ws, SizeOutOfRange) ∷ []

abbrev pub bound_checks : List (List ℕ) → List Check
bound_checks = three_checks bound_places bound_limit ParametersWrong DomainNumberWrong DomainNumberWrong

unfoldable pub parameter_checks : Keyword → List ℕ → List Check
parameter_checks ATitle l = (title_formed l, ParametersWrong) ∷ []
parameter_checks ALower l = bound_checks (parameters (words_of l))
parameter_checks AnUpper l = bound_checks (parameters (words_of l))
parameter_checks (ASize k) l = size_checks k (parameters (words_of l))

-- ---- a data line: 9, 19, 10 to 13 if it is the first, then 14, 15, and 16 before 17 in each number

-- of what the lines so far describe, and a table of so many places
unfoldable pub head_checks : ℕ → State → List Check
head_checks places st =
    cond (eqb st.rows 0)
    ((given st.size, NoSize)
    ∷ (together st.lower st.upper, HalfADomain)
    ∷ (every_colour ordered (describe st), LowerNotBelowUpper)
    ∷ (every_colour narrow (describe st), DomainTooWide)
    ∷ (agree (describe st).kind (describe st), DomainsDiffer)
    ∷ (roomy places (describe st), TooLittleRoom)
    ∷ [])
    []

abbrev pub sample_checks : List (List ℕ) → List Check
sample_checks = three_checks sample_places sample_limit NotThreeNumbers SampleBeyond SampleTooFine

unfoldable pub data_checks : ℕ → State → List ℕ → List Check
data_checks places st l = head_checks places st ++ ((ltb st.rows (rows (describe st)), TooManyRows) ∷ sample_checks (words_of l))

-- ---- a line, and the end

-- data, a known keyword, or a line that says nothing
abbrev pub known : Form → Bool
known Idle = true
known (Keyed k) = true
known Data = true
known Neither = false

unfoldable pub form_checks : ℕ → State → Form → List ℕ → List Check
form_checks places st Idle l = []
form_checks places st (Keyed k) l = keyword_checks k st ++ parameter_checks k l
form_checks places st Data l = data_checks places st l
form_checks places st Neither l = []

-- 1, 2, 3, and then by its form
unfoldable pub line_checks : ℕ → State → List ℕ → List Check
line_checks places st l = byte_checks l ++ ((known (form_of l), NeitherDataNorKeyword) ∷ form_checks places st (form_of l) l)

-- 9, 19, 10 to 13 where there is no data line, then 18
unfoldable pub end_checks : ℕ → State → List Check
end_checks places st = head_checks places st ++ ((leb (rows (describe st)) st.rows, TooFewRows) ∷ [])

-- ---- the file

-- the state that lines lead to, each of which the judge lets pass; the first begins at place p
abbrev pub Leads : (State → ℕ → List ℕ → Verdict) → ℕ → State → List (List ℕ) → State → Type 0
Leads judged p st [] st' = st' ≡ st
Leads judged p st (l ∷ ls) st' = (next : State) × (judged st p l ≡ go next) × Leads judged (p + length l + 1) next ls st'

-- by the rules, with a table of so many places
abbrev pub Reached : ℕ → ℕ → State → List (List ℕ) → State → Type 0
Reached places = Leads (judge places)

-- the lines before line n pass, and of its checks the first that fails has this refusal
pub record OnLine (file : List ℕ) (places : ℕ) (r : Refusal) (n : ℕ) : Type 0 where
  pub before : List (List ℕ)
  pub line : List ℕ
  pub rest : List (List ℕ)
  pub lines_so : lines_of file ≡ before ++ (line ∷ rest)
  pub number : n ≡ 1 + length before
  pub state : State
  pub reached : Reached places 0 start before state
  pub fails : FirstFailing r (line_checks places state line)

-- all lines pass, and of the end's checks the first that fails has this refusal; the end is on line n
pub record AtEnd (file : List ℕ) (places : ℕ) (r : Refusal) (n : ℕ) : Type 0 where
  pub state : State
  pub reached : Reached places 0 start (lines_of file) state
  pub number : n ≡ 1 + newlines file
  pub fails : FirstFailing r (end_checks places state)

abbrev pub FailsFirst : List ℕ → ℕ → Refusal → ℕ → Type 0
FailsFirst file places r n = OnLine file places r n ⊎ AtEnd file places r n
