-- Document 01, "Answers by number", with document 02's Req 05: the judge of one line, and of the file's end, in the order of the checks.
use Rattle.std.specs.Prelude.{ℕ, ◌+◌, Bool, true, false, cond, not, List, length, eqb, ltb, leb, Err, None, Ok, Option, Some}
use Rattle.rules.specs.Descriptions.{lowest, highest, no_title, description, rows, every_colour, ordered, narrow, agree, roomy}
use Rattle.rules.specs.Reading.Lines.{line_limit, permitted, every}
use Rattle.rules.specs.Reading.Items.{title_in, lower_in, upper_in, size_in, row_in}
use Rattle.rules.specs.Reading.Contents.{form_of, content_of}
use Rattle.rules.specs.declared.Form.{Form}
use Rattle.rules.specs.declared.Form.TheVariants.{Idle, Keyed, Data, Neither}
use Rattle.rules.specs.declared.Item.{Item}
use Rattle.rules.specs.declared.Keyword.{Keyword}
use Rattle.rules.specs.declared.Keyword.TheVariants.{ATitle, ALower, AnUpper, ASize}
use Rattle.rules.specs.declared.Bounds.{Bounds}
use Rattle.rules.specs.declared.Description.{Description}
use Rattle.rules.specs.declared.Kind.TheVariants.{OneD}
use Rattle.rules.specs.declared.Refusal.{Refusal}
use Rattle.rules.specs.declared.Refusal.TheVariants.{LineTooLong, ByteNotPermitted, KeywordAfterData, KeywordRepeated, NoSize, HalfADomain, LowerNotBelowUpper, DomainTooWide, DomainsDiffer, TooLittleRoom, TooManyRows, TooFewRows}
use Rattle.rules.specs.declared.Row.{Row}
use Rattle.rules.specs.declared.Size.{Size}
use Rattle.rules.specs.declared.Title.{Title}
use Rattle.rules.specs.Results.{Content}

-- ---- what the lines so far have given, and how many data lines there were

pub record State : Type 0 where
  pub title : Option Title
  pub lower : Option Bounds
  pub upper : Option Bounds
  pub size : Option Size
  pub rows : ℕ

abbrev pub start : State
start = record { title = None; lower = None; upper = None; size = None; rows = 0 }

-- what a line gives, or else what was given before
abbrev pub newer : {A : Type 0} → Option A → Option A → Option A
newer None old = old
newer (Some a) old = Some a

-- a row counts one more
abbrev pub counted : Option Row → ℕ → ℕ
counted None n = n
counted (Some r) n = n + 1

-- a state with one more line's item
unfoldable pub add : State → Item → State
add st i = record {
  title = newer (title_in i) st.title;
  lower = newer (lower_in i) st.lower;
  upper = newer (upper_in i) st.upper;
  size = newer (size_in i) st.size;
  rows = counted (row_in i) st.rows;
}

abbrev pub given : {A : Type 0} → Option A → Bool
given None = false
given (Some a) = true

abbrev pub given_or : {A : Type 0} → A → Option A → A
given_or a None = a
given_or a (Some b) = b

-- no size counts as 1D with no rows
abbrev pub no_size : Size
no_size = record { kind = OneD; n = 0 }

-- what a state describes
unfoldable pub describe : State → Description
describe st = description (given_or no_title st.title) (given_or lowest st.lower) (given_or highest st.upper) (given_or no_size st.size)

-- whether a keyword's line was there
unfoldable pub repeats : Keyword → State → Bool
repeats ATitle st = given st.title
repeats ALower st = given st.lower
repeats AnUpper st = given st.upper
repeats (ASize k) st = given st.size

-- ---- a refusal, or none: the first decides

abbrev pub Fault : Type 0
Fault = Option Refusal

-- what the test asks for, or else this refusal; then what follows
unfoldable pub need : Bool → Refusal → Fault → Fault
need true r next = next
need false r next = Some r

unfoldable pub first : Fault → Fault → Fault
first None next = next
first (Some r) next = Some r

-- ---- 9, 19, 10 to 13, at the first data line, or at the end where there is none

-- two lines are both there, or both absent
abbrev pub together : {A B : Type 0} → Option A → Option B → Bool
together None None = true
together None (Some b) = false
together (Some a) None = false
together (Some a) (Some b) = true

-- 10 to 13, of a description and a table of so many places
unfoldable pub domain_fault : ℕ → Description → Fault
domain_fault places d =
    need (every_colour ordered d) LowerNotBelowUpper
    (need (every_colour narrow d) DomainTooWide
    (need (agree d.kind d) DomainsDiffer
    (need (roomy places d) TooLittleRoom None)))

-- of what the lines so far have given: a size, the domain whole or not at all, and 10 to 13
unfoldable pub given_fault : ℕ → State → Fault
given_fault places st = need (given st.size) NoSize (need (together st.lower st.upper) HalfADomain (domain_fault places (describe st)))

unfoldable pub head_fault : ℕ → State → Fault
head_fault places st = cond (eqb st.rows 0) (given_fault places st) None

-- ---- a line: 1, 2; then its place among the others; then what it says

unfoldable pub byte_fault : List ℕ → Fault
byte_fault l = need (leb (length l) line_limit) LineTooLong (need (every permitted l) ByteNotPermitted None)

-- a keyword: 4, 5; a data line: 9, 19, 10 to 13, then 14
unfoldable pub order_fault : ℕ → State → Form → Fault
order_fault places st Idle = None
order_fault places st (Keyed k) = need (eqb st.rows 0) KeywordAfterData (need (not (repeats k st)) KeywordRepeated None)
order_fault places st Data = first (head_fault places st) (need (ltb st.rows (rows (describe st))) TooManyRows None)
order_fault places st Neither = None

-- the state after a line, or a refusal
pub data Verdict : Type 0 where
  go : State → Verdict
  refuse : Refusal → Verdict

unfoldable pub take_in : State → Content → Verdict
take_in st (Ok i) = go (add st i)
take_in st (Err r) = refuse r

unfoldable pub unless : Fault → Verdict → Verdict
unless None j = j
unless (Some r) j = refuse r

unfoldable pub judge : ℕ → State → ℕ → List ℕ → Verdict
judge places st p l = unless (byte_fault l) (unless (order_fault places st (form_of l)) (take_in st (content_of p l)))

-- ---- the end: 9, 19, 10 to 13 where there was no data line, then 18

unfoldable pub end_fault : ℕ → State → Fault
end_fault places st = first (head_fault places st) (need (leb (rows (describe st)) st.rows) TooFewRows None)
