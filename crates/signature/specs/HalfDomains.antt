-- Document 02, Req 05: a file with one line of the domain and not the other is refused with 19. Where that is, and reading as it was before.
use Rattle.std.specs.Prelude.{ℕ, ◌≤◌, ◌≡◌, Bool, true, false, cond, List, eqb, None}
use Rattle.rules.specs.Reading.{read}
use Rattle.rules.specs.Reading.Contents.{content_of}
use Rattle.rules.specs.Reading.Judge.{Fault, State, describe, domain_fault, given, need}
use Rattle.rules.specs.declared.Form.{Form}
use Rattle.rules.specs.declared.Form.TheVariants.{Idle, Keyed, Data, Neither}
use Rattle.rules.specs.declared.Keyword.TheVariants.{ATitle, ALower, AnUpper, ASize}
use Rattle.rules.specs.declared.Refusal.{Refusal}
use Rattle.rules.specs.declared.Refusal.TheVariants.{HalfADomain, NoSize}
use Rattle.signature.specs.Before.{read_by}
use Rattle.signature.specs.Heads.{HeadAt, among}
use Rattle.rules.specs.Results.{Read, refused_on}

-- ---- sorts of line

unfoldable pub lower_line : Form → Bool
lower_line Idle = false
lower_line (Keyed ATitle) = false
lower_line (Keyed ALower) = true
lower_line (Keyed AnUpper) = false
lower_line (Keyed (ASize k)) = false
lower_line Data = false
lower_line Neither = false

unfoldable pub upper_line : Form → Bool
upper_line Idle = false
upper_line (Keyed ATitle) = false
upper_line (Keyed ALower) = false
upper_line (Keyed AnUpper) = true
upper_line (Keyed (ASize k)) = false
upper_line Data = false
upper_line Neither = false

unfoldable pub size_line : Form → Bool
size_line Idle = false
size_line (Keyed ATitle) = false
size_line (Keyed ALower) = false
size_line (Keyed AnUpper) = false
size_line (Keyed (ASize k)) = true
size_line Data = false
size_line Neither = false

-- one line of the domain is among them, and the other is not
pub data HalfDomain (ls : List (List ℕ)) : Type 0 where
  lower_alone : among lower_line ls ≡ true → among upper_line ls ≡ false → HalfDomain ls
  upper_alone : among upper_line ls ≡ true → among lower_line ls ≡ false → HalfDomain ls

-- ---- where 19 is given

-- a size was given, and one line of the domain was and the other not
pub record HalfGiven (before : List (List ℕ)) (st : State) : Type 0 where
  pub sized : among size_line before ≡ true
  pub half : HalfDomain before

-- the first refusal comes where the head is checked, after such lines
abbrev pub HalfAt : List ℕ → ℕ → ℕ → Type 0
HalfAt = HeadAt HalfGiven

-- ---- before: of the two lines together nothing was asked

unfoldable pub head_before : ℕ → State → Fault
head_before places st = cond (eqb st.rows 0) (need (given st.size) NoSize (domain_fault places (describe st))) None

abbrev pub read_with_halves : List ℕ → ℕ → Read
read_with_halves = read_by head_before content_of

-- a file that is refused with 19; before it was refused, if at all, on no earlier line
pub record Halved (file : List ℕ) (places : ℕ) : Type 0 where
  pub line : ℕ
  pub refused : read file places ≡ refused_on HalfADomain line
  pub half : HalfAt file places line
  pub not_earlier : (r : Refusal) (n : ℕ) → read_with_halves file places ≡ refused_on r n → line ≤ n
