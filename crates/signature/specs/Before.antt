-- Reading by its parts, for the theorems that say what a request of document 02 changes and what it leaves: what the request changed is put in as it was before,
-- and what does not stand here anew is that of the rules.
use Rattle.std.specs.Prelude.{ℕ, suc, ◌+◌, ◌*◌, ◌&&◌, cond, List, [], ◌∷◌, ◌++◌, leb, ltb, ℤ, length, drop, Err, None, Ok, Option, Some}
use Rattle.rules.specs.Units.{sample_places, sample_limit, bound_places, bound_limit}
use Rattle.rules.specs.Descriptions.{rows}
use Rattle.rules.specs.Reading.{finish, onward, samples_in}
use Rattle.rules.specs.Reading.Lines.{lines_of, words_of}
use Rattle.rules.specs.Reading.Contents.{bounds_at, content_by, formed, form_of, parameters, row_of, values}
use Rattle.rules.specs.Reading.Judge.{Fault, State, Verdict, start, byte_fault, describe, first, need, order_fault, take_in, unless}
use Rattle.rules.specs.declared.Bounds.{Bounds}
use Rattle.rules.specs.declared.Form.{Form}
use Rattle.rules.specs.declared.Form.TheVariants.{Idle, Keyed, Data, Neither}
use Rattle.rules.specs.declared.Item.{Item}
use Rattle.rules.specs.declared.Item.TheVariants.{OfLower, OfUpper, OfRow}
use Rattle.rules.specs.declared.Keyword.TheVariants.{ATitle, ALower, AnUpper, ASize}
use Rattle.rules.specs.declared.Refusal.TheVariants.{DomainNumberWrong, NotThreeNumbers, ParametersWrong, SampleBeyond, SampleTooFine, TooFewRows, TooManyRows}
use Rattle.rules.specs.declared.Three.{Three}
use Rattle.rules.specs.Results.{Content, Number, Read}

-- ---- reading, where a word says a number in some way

module _ (number : ℕ → ℕ → List ℕ → Number) where
  -- three words, each a number
  unfoldable pub three_by : ℕ → ℕ → List (List ℕ) → Option Three
  three_by places limit [] = None
  three_by places limit (a ∷ []) = None
  three_by places limit (a ∷ b ∷ []) = None
  three_by places limit (a ∷ b ∷ c ∷ []) =
      cond (formed (number places limit a) && (formed (number places limit b) && formed (number places limit c)))
      (Some (record { first = number places limit a; second = number places limit b; third = number places limit c }))
      None
  three_by places limit (a ∷ b ∷ c ∷ d ∷ more) = None

  unfoldable pub bounds_by : (Bounds → Item) → List (List ℕ) → Content
  bounds_by side ws = values ParametersWrong DomainNumberWrong DomainNumberWrong (three_by bound_places bound_limit ws) (λ x y z. Ok (side (bounds_at x y z)))

  unfoldable pub samples_by : List (List ℕ) → Content
  samples_by ws = values NotThreeNumbers SampleBeyond SampleTooFine (three_by sample_places sample_limit ws) (λ x y z. Ok (OfRow (row_of x y z)))

  -- what a line says, by its form
  unfoldable pub form_by : Form → ℕ → List ℕ → Content
  form_by Idle p l = content_by Idle p l
  form_by (Keyed ATitle) p l = content_by (Keyed ATitle) p l
  form_by (Keyed ALower) p l = bounds_by OfLower (parameters (words_of l))
  form_by (Keyed AnUpper) p l = bounds_by OfUpper (parameters (words_of l))
  form_by (Keyed (ASize k)) p l = content_by (Keyed (ASize k)) p l
  form_by Data p l = samples_by (words_of l)
  form_by Neither p l = content_by Neither p l

  abbrev pub line_by : ℕ → List ℕ → Content
  line_by p l = form_by (form_of l) p l

-- ---- reading, where lines and the end are judged in some way

-- how a reading judges a line, which begins at a place of the file, and how the end
pub record Judges : Type 0 where
  pub line : State → ℕ → List ℕ → Verdict
  pub end : State → Fault

-- the lines from place p on, after n lines
unfoldable pub read_lines_by : Judges → ℕ → ℕ → State → List (List ℕ) → Read
read_lines_by by p n st [] = finish n st (by.end st)
read_lines_by by p n st (l ∷ ls) = onward (λ st'. read_lines_by by (p + length l + 1) (suc n) st' ls) (suc n) (by.line st p l)

-- the number of the next line after n lines, or of the end where none is left
abbrev pub line_after : ℕ → List (List ℕ) → ℕ
line_after n [] = n
line_after n (l ∷ ls) = suc n

-- ---- reading, where the head, all that stands before the data, is judged in some way, and a line says its content in some way

module _ (head : ℕ → State → Fault) where
  unfoldable pub order_by : ℕ → State → Form → Fault
  order_by places st Idle = order_fault places st Idle
  order_by places st (Keyed k) = order_fault places st (Keyed k)
  order_by places st Data = first (head places st) (need (ltb st.rows (rows (describe st))) TooManyRows None)
  order_by places st Neither = order_fault places st Neither

  unfoldable pub end_by : ℕ → State → Fault
  end_by places st = first (head places st) (need (leb (rows (describe st)) st.rows) TooFewRows None)

  unfoldable pub judge_by : (ℕ → List ℕ → Content) → ℕ → State → ℕ → List ℕ → Verdict
  judge_by content places st p l = unless (byte_fault l) (unless (order_by places st (form_of l)) (take_in st (content p l)))

  abbrev pub judges_by : (ℕ → List ℕ → Content) → ℕ → Judges
  judges_by content places = record { line = judge_by content places; end = end_by places }

  unfoldable pub read_by : (ℕ → List ℕ → Content) → List ℕ → ℕ → Read
  read_by content file places = read_lines_by (judges_by content places) 0 0 start (lines_of file)

-- ---- what is left in the table, where a line says its content in some way

module _ (content : ℕ → List ℕ → Content) where
  unfoldable pub samples_of_by : List (List ℕ) → List ℤ
  samples_of_by [] = []
  samples_of_by (l ∷ ls) = samples_in (content 0 l) ++ samples_of_by ls

  unfoldable pub table_by : List ℕ → List ℤ → Read → List ℤ
  table_by file table (Ok d) = samples_of_by (lines_of file) ++ drop (3 * rows d) table
  table_by file table (Err x) = table
