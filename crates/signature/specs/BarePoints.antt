-- Document 02, Req 01: digits with a bare point are numbers. The rule of before, reading by it, and what the request brings.
use Rattle.std.specs.Prelude.{ℕ, suc, ◌≤◌, ◌≡◌, Bool, true, cond, List, [], ◌∷◌, ◌++◌, ℤ, length, Option}
use Rattle.rules.specs.Reading.{read, table_after}
use Rattle.rules.specs.Reading.Lines.{digit, minus_byte, point_byte, run, after, starts, lines_of, words_of}
use Rattle.rules.specs.Reading.Numerals.{Numeral, Power, Sign, digits}
use Rattle.rules.specs.Reading.Numbers.{assemble, exponent_of, unsigned, value_of}
use Rattle.rules.specs.Reading.Contents.{form_of}
use Rattle.rules.specs.Reading.Judge.{head_fault}
use Rattle.rules.specs.declared.Form.{Form}
use Rattle.rules.specs.declared.Form.TheVariants.{Keyed, Data}
use Rattle.rules.specs.declared.Keyword.TheVariants.{ALower, AnUpper}
use Rattle.rules.specs.declared.Refusal.{Refusal}
use Rattle.rules.specs.declared.Refusal.TheVariants.{NotThreeNumbers, ParametersWrong}
use Rattle.signature.specs.Before.{line_by, read_by, table_by}
use Rattle.rules.specs.Results.{Content, Number, Read, refused_on}

-- ---- before: a point had at least one digit after it

unfoldable pub pointed_before : Bool → List ℕ → List ℕ → Option Numeral
pointed_before negative whole [] = assemble (starts digit whole) negative whole [] (exponent_of [])
pointed_before negative whole (b ∷ rest) =
    cond (point_byte b)
    (assemble (starts digit rest) negative whole (run digit rest) (exponent_of (after digit rest)))
    (assemble (starts digit whole) negative whole [] (exponent_of (b ∷ rest)))

unfoldable pub numeral_before : List ℕ → Option Numeral
numeral_before w = pointed_before (starts minus_byte w) (run digit (unsigned w)) (after digit (unsigned w))

unfoldable pub number_before : ℕ → ℕ → List ℕ → Number
number_before places limit w = value_of places limit (numeral_before w)

abbrev pub line_before : ℕ → List ℕ → Content
line_before = line_by number_before

abbrev pub read_before : List ℕ → ℕ → Read
read_before = read_by head_fault line_before

abbrev pub table_before : List ℕ → List ℤ → Read → List ℤ
table_before = table_by line_before

-- ---- what it brings

-- a sign, if any, digits, a point with nothing after it, and an exponent, if any
pub record BarePoint (w : List ℕ) (n : Numeral) : Type 0 where
  pub sign : List ℕ
  pub power : List ℕ
  pub word : w ≡ sign ++ (n.whole ++ (46 ∷ power))
  pub sign_so : Sign n.negative sign
  pub whole_so : digits n.whole ≡ true
  pub fraction_so : n.fraction ≡ []
  pub power_so : Power power n.exponent

-- the word without its point
abbrev pub without_point : (w : List ℕ) (n : Numeral) → BarePoint w n → List ℕ
without_point w n b = b.sign ++ (n.whole ++ b.power)

-- such a word among others
pub record BareAmong (ws : List (List ℕ)) : Type 0 where
  pub before : List (List ℕ)
  pub word : List ℕ
  pub later : List (List ℕ)
  pub parted : ws ≡ before ++ (word ∷ later)
  pub numeral : Numeral
  pub bare : BarePoint word numeral

-- the refusal of words that are no numbers, where numbers have to stand: 6 on a line of bounds, 15 on a data line
pub data Unformed (f : Form) (r : Refusal) : Type 0 where
  lower_bounds : f ≡ Keyed ALower → r ≡ ParametersWrong → Unformed f r
  upper_bounds : f ≡ Keyed AnUpper → r ≡ ParametersWrong → Unformed f r
  samples : f ≡ Data → r ≡ NotThreeNumbers → Unformed f r

-- a file that was refused with 6 or 15 on a line with such a word; now no earlier line is refused
pub record Freed (file : List ℕ) (places : ℕ) : Type 0 where
  pub before : List (List ℕ)
  pub line : List ℕ
  pub rest : List (List ℕ)
  pub lines_so : lines_of file ≡ before ++ (line ∷ rest)
  pub refusal : Refusal
  pub refused : read_before file places ≡ refused_on refusal (suc (length before))
  pub unformed : Unformed (form_of line) refusal
  pub bare : BareAmong (words_of line)
  pub not_earlier : (r : Refusal) (n : ℕ) → read file places ≡ refused_on r n → suc (length before) ≤ n

-- a file that is answered as it was, and leaves in a table what it left
pub record Unmoved (file : List ℕ) (places : ℕ) : Type 0 where
  pub answer : read_before file places ≡ read file places
  pub table : (table : List ℤ) → table_before file table (read_before file places) ≡ table_after file table (read file places)
