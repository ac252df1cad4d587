-- Where the head of a file, all that stands before the data, is checked: at the first data line, if 1 and 2 let it pass, or at the end where there is none.
use Rattle.std.specs.Prelude.{ℕ, ◌≡◌, Bool, true, false, ◌||◌, List, [], ◌∷◌, ◌++◌, length, None}
use Rattle.rules.specs.Reading.Lines.{lines_of}
use Rattle.rules.specs.Reading.Contents.{form_of}
use Rattle.rules.specs.Reading.Judge.{State, start, byte_fault}
use Rattle.rules.specs.declared.Form.{Form}
use Rattle.rules.specs.declared.Form.TheVariants.{Idle, Keyed, Data, Neither}
use Rattle.signature.specs.Before.{line_after}
use Rattle.signature.specs.Order.{Reached}

-- a line of the sort is among them
unfoldable pub among : (Form → Bool) → List (List ℕ) → Bool
among sort [] = false
among sort (l ∷ ls) = sort (form_of l) || among sort ls

unfoldable pub data_line : Form → Bool
data_line Idle = false
data_line (Keyed k) = false
data_line Data = true
data_line Neither = false

-- the end, or a data line that 1 and 2 let pass
abbrev pub AtHead : List (List ℕ) → Type 0
AtHead [] = Unit {0}
AtHead (l ∷ ls) = (byte_fault l ≡ None) × (form_of l ≡ Data)

-- there, on line n, something holds of the lines before and of the state that they lead to
pub record HeadAt (Holds : List (List ℕ) → State → Type 0) (file : List ℕ) (places n : ℕ) : Type 0 where
  pub before : List (List ℕ)
  pub left : List (List ℕ)
  pub lines_so : lines_of file ≡ before ++ left
  pub number : n ≡ line_after (length before) left
  -- the lines before pass, with no data among them; data follow, or the end
  pub state : State
  pub passed : Reached places 0 start before state
  pub no_data : among data_line before ≡ false
  pub at_head : AtHead left
  pub holds : Holds before state
