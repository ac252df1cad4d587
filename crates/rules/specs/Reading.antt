-- Document 01, "Answers by number": reading a file. The first refused line decides.
use Rattle.std.specs.Prelude.{ℕ, suc, ◌+◌, ◌*◌, List, [], ◌∷◌, ◌++◌, length, drop, ℤ, Err, None, Ok, Some}
use Rattle.rules.specs.Units.{place_limit}
use Rattle.rules.specs.Descriptions.{rows}
use Rattle.rules.specs.Reading.Lines.{lines_of}
use Rattle.rules.specs.Reading.Items.{numbers_of}
use Rattle.rules.specs.Reading.Contents.{content_of}
use Rattle.rules.specs.Reading.Judge.{State, start, describe, Fault, Verdict, go, refuse, judge, end_fault}
use Rattle.rules.specs.declared.Item.TheVariants.{Nothing, OfTitle, OfLower, OfUpper, OfSize, OfRow}
use Rattle.rules.specs.Results.{Content, Read, refused_on}
-- bytes, lines and words
pub mod Lines
-- a file that keeps the specification, as a property
pub mod Numerals
pub mod Items
pub mod Grammar
-- what words and lines say, and the judge of a line
pub mod Numbers
pub mod Contents
pub mod Judge

-- the end of the file, on line n
abbrev pub finish : ℕ → State → Fault → Read
finish n st None = Ok (describe st)
finish n st (Some r) = refused_on r n

-- after a line's verdict: the rest, or its refusal with its number
abbrev pub onward : (State → Read) → ℕ → Verdict → Read
onward rest n (go st) = rest st
onward rest n (refuse r) = refused_on r n

-- the lines from place p on, after n lines
unfoldable pub read_lines : ℕ → ℕ → ℕ → State → List (List ℕ) → Read
read_lines places p n st [] = finish n st (end_fault places st)
read_lines places p n st (l ∷ ls) = onward (λ st'. read_lines places (p + length l + 1) (suc n) st' ls) (suc n) (judge places st p l)

-- what reading a file into a table of so many places answers
unfoldable pub read : List ℕ → ℕ → Read
read file places = read_lines places 0 0 start (lines_of file)

-- what a file answers that is judged with no table: what reading answers where there is room for every table
unfoldable pub check : List ℕ → Read
check file = read file place_limit

-- the samples of a line
unfoldable pub samples_in : Content → List ℤ
samples_in (Ok Nothing) = []
samples_in (Ok (OfTitle t)) = []
samples_in (Ok (OfLower b)) = []
samples_in (Ok (OfUpper b)) = []
samples_in (Ok (OfSize s)) = []
samples_in (Ok (OfRow r)) = numbers_of r
samples_in (Err r) = []

-- the samples of lines, in order
unfoldable pub samples_of : List (List ℕ) → List ℤ
samples_of [] = []
samples_of (l ∷ ls) = samples_in (content_of 0 l) ++ samples_of ls

-- the table afterwards: the samples from its start on, later places as they were; after a refusal as it was
unfoldable pub table_after : List ℕ → List ℤ → Read → List ℤ
table_after file table (Ok d) = samples_of (lines_of file) ++ drop (3 * rows d) table
table_after file table (Err x) = table
