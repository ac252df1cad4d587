-- Documents 000, 01 and 02, as properties: what a line is, and what a file is that keeps the specification within the limits. Nothing here is run.
use Rattle.std.specs.Prelude.{ℕ, ◌+◌, ◌*◌, ◌≤◌, ◌≡◌, Bool, true, false, length, ℤ, None, Option, Some}
use mathlib.Core.List.{List, [], ◌∷◌, ◌++◌, map, flatten}
use Rattle.rules.specs.Units.{sample_places, sample_limit, bound_places, bound_limit, in_range}
use Rattle.rules.specs.Descriptions.{lowest, highest, no_title, rows, every_colour, ordered, narrow, agree}
use Rattle.rules.specs.Reading.Lines.{line_limit, permitted, blank, in_title, every, lines_of, words_of}
use Rattle.rules.specs.Reading.Numerals.{digits, spell, Exact}
use Rattle.rules.specs.Reading.Items.{named, title_in, lower_in, upper_in, size_in, row_in, numbers_of}
use Rattle.rules.specs.declared.Item.{Item}
use Rattle.rules.specs.declared.Item.TheVariants.{Nothing, OfTitle, OfLower, OfUpper, OfSize, OfRow}
use Rattle.rules.specs.declared.Keyword.{Keyword}
use Rattle.rules.specs.declared.Keyword.TheVariants.{ATitle, ALower, AnUpper, ASize}
use Rattle.rules.specs.declared.Bounds.{Bounds}
use Rattle.rules.specs.declared.Description.{Description}
use Rattle.rules.specs.declared.Row.{Row}
use Rattle.rules.specs.declared.Size.{Size}
use Rattle.rules.specs.declared.Title.{Title}

-- ---- a line

-- empty, or a comment
pub data IdleLine (l : List ℕ) : Type 0 where
  empty : l ≡ [] → IdleLine l
  comment : (text : List ℕ) → l ≡ 35 ∷ text → IdleLine l

-- blanks, TITLE, blanks, a quote, text, a quote, blanks; the line begins at place p of the file
pub record TitleLine (p : ℕ) (l : List ℕ) (t : Title) : Type 0 where
  pub lead : List ℕ
  pub gap : List ℕ
  pub text : List ℕ
  pub trail : List ℕ
  pub line : l ≡ lead ++ (named ATitle ++ (gap ++ (34 ∷ (text ++ (34 ∷ trail)))))
  pub lead_blank : every blank lead ≡ true
  pub gap_blank : every blank gap ≡ true
  pub gap_there : 1 ≤ length gap
  pub text_so : every in_title text ≡ true
  pub trail_blank : every blank trail ≡ true
  pub title_so : t ≡ record { there = true; place = p + length lead + length (named ATitle) + length gap + 1; length = length text }

-- three words whose values are x, y, z
pub record ThreeNumbers (places limit : ℕ) (ws : List (List ℕ)) (x y z : ℤ) : Type 0 where
  pub a : List ℕ
  pub b : List ℕ
  pub c : List ℕ
  pub words : ws ≡ a ∷ b ∷ c ∷ []
  pub red : Exact places limit a x
  pub green : Exact places limit b y
  pub blue : Exact places limit c z

-- a keyword, and three bounds
pub record BoundsLine (k : Keyword) (l : List ℕ) (b : Bounds) : Type 0 where
  pub parameters : List (List ℕ)
  pub words : words_of l ≡ named k ∷ parameters
  pub numbers : ThreeNumbers bound_places bound_limit parameters b.red.0 b.green.0 b.blue.0

-- a size word, and N in digits alone, in range
pub record SizeLine (l : List ℕ) (s : Size) : Type 0 where
  pub word : List ℕ
  pub words : words_of l ≡ named (ASize s.kind) ∷ word ∷ []
  pub digits_so : digits word ≡ true
  pub n_so : s.n ≡ spell 0 word
  pub range : in_range s.kind s.n ≡ true

-- three samples
abbrev pub RowLine : List ℕ → Row → Type 0
RowLine l r = ThreeNumbers sample_places sample_limit (words_of l) r.red.0 r.green.0 r.blue.0

-- what a line that gives an item is
abbrev pub Gives : ℕ → List ℕ → Item → Type 0
Gives p l Nothing = IdleLine l
Gives p l (OfTitle t) = TitleLine p l t
Gives p l (OfLower b) = BoundsLine ALower l b
Gives p l (OfUpper b) = BoundsLine AnUpper l b
Gives p l (OfSize s) = SizeLine l s
Gives p l (OfRow r) = RowLine l r

-- a line that keeps the rules by itself: short enough, each byte permitted, and of a kind
pub record Line (p : ℕ) (l : List ℕ) (i : Item) : Type 0 where
  pub short : length l ≤ line_limit
  pub permitted_so : every permitted l ≡ true
  pub gives : Gives p l i

-- each line keeps them; the next begins one byte past the end of the one before
abbrev pub Lines : ℕ → List (List ℕ) → List Item → Type 0
Lines p [] [] = Unit
Lines p [] (i ∷ is) = ⊥
Lines p (l ∷ ls) [] = ⊥
Lines p (l ∷ ls) (i ∷ is) = Line p l i × Lines (p + length l + 1) ls is

-- ---- the lines together

abbrev pub put : {A : Type 0} → Option A → List A → List A
put None xs = xs
put (Some a) xs = a ∷ xs

-- the items of one sort among all, in order
unfoldable pub gather : {A : Type 0} → (Item → Option A) → List Item → List A
gather pick [] = []
gather pick (i ∷ is) = put (pick i) (gather pick is)

abbrev pub is_keyword : Item → Bool
is_keyword Nothing = false
is_keyword (OfTitle t) = true
is_keyword (OfLower b) = true
is_keyword (OfUpper b) = true
is_keyword (OfSize s) = true
is_keyword (OfRow r) = false

abbrev pub is_row : Item → Bool
is_row Nothing = false
is_row (OfTitle t) = false
is_row (OfLower b) = false
is_row (OfUpper b) = false
is_row (OfSize s) = false
is_row (OfRow r) = true

abbrev pub NoKeyword : List Item → Type 0
NoKeyword [] = Unit
NoKeyword (i ∷ is) = (is_keyword i ≡ false) × NoKeyword is

-- keywords stand before data: after a row there is none
abbrev pub KeywordsFirst : List Item → Type 0
KeywordsFirst [] = Unit
KeywordsFirst (i ∷ is) = (is_row i ≡ true → NoKeyword is) × KeywordsFirst is

-- x is the only one of a list, or the default where there is none; never are there two
abbrev pub AtMostOne : {A : Type 0} → List A → A → A → Type 0
AtMostOne [] default x = x ≡ default
AtMostOne (a ∷ []) default x = x ≡ a
AtMostOne (a ∷ b ∷ more) default x = ⊥

-- two sorts of line are both there, or both absent
abbrev pub BothOrNeither : {A B : Type 0} → List A → List B → Type 0
BothOrNeither [] [] = Unit
BothOrNeither [] (b ∷ ys) = ⊥
BothOrNeither (a ∷ xs) [] = ⊥
BothOrNeither (a ∷ xs) (b ∷ ys) = Unit

abbrev pub lowers : Description → Bounds
lowers d = record { red = d.red.lower; green = d.green.lower; blue = d.blue.lower }

abbrev pub uppers : Description → Bounds
uppers d = record { red = d.red.upper; green = d.green.upper; blue = d.blue.upper }

-- ---- a file that keeps the specification within the limits, with a table of so many places, a description and samples

pub record Keeps (file : List ℕ) (places : ℕ) (d : Description) (samples : List ℤ) : Type 0 where
  -- each line is permitted, and empty, a comment, a keyword with its parameters, or data
  pub items : List Item
  pub lines : Lines 0 (lines_of file) items
  -- keywords stand before data, each at most once; one size; both lines of the domain or neither
  pub order : KeywordsFirst items
  pub title : AtMostOne (gather title_in items) no_title d.title
  pub lower : AtMostOne (gather lower_in items) lowest (lowers d)
  pub upper : AtMostOne (gather upper_in items) highest (uppers d)
  pub size : gather size_in items ≡ record { kind = d.kind; n = d.n } ∷ []
  pub domain : BothOrNeither (gather lower_in items) (gather upper_in items)
  -- the rules on the domains, and the table's length
  pub ordered_so : every_colour ordered d ≡ true
  pub narrow_so : every_colour narrow d ≡ true
  pub agree_so : agree d.kind d ≡ true
  pub room : 3 * rows d ≤ places
  -- as many data lines as rows; their values in order
  pub count : length (gather row_in items) ≡ rows d
  pub values : samples ≡ flatten (map numbers_of (gather row_in items))
