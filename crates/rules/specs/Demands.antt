-- Demands 2 and 3: where an accepted file's numbers and title stand, and what is asked of an accepted look and an accepted picture, colour by colour;
-- and, of document 02, of rows and weights that anybody wrote, and of the raw code of a wanted one.
use Rattle.std.specs.Prelude.{ℕ, ◌+◌, ◌*◌, ◌%◌, ◌≤◌, ◌<◌, ◌≡◌, ◌⊎◌, Bool, true, false, cond, List, [], ◌∷◌, ◌++◌, length, take, drop, get_or, ℤ, pos, ◌*ℤ◌, ◌<ℤ◌, ◌≤ℤ◌, Some}
use Rattle.whole.specs.Nearest.{Nearest, weights}
use Rattle.rules.specs.Units.{depths_of, raw_m, corrected_m, sample_places, sample_limit, colour_place, code_in}
use Rattle.rules.specs.Descriptions.{rows}
use Rattle.rules.specs.Reading.Lines.{lines_of, words_of}
use Rattle.rules.specs.Reading.Numerals.{Exact}
use Rattle.rules.specs.Reading.Grammar.{Keeps, TitleLine}
use Rattle.rules.specs.Reading.Contents.{form_of}
use Rattle.rules.specs.Looking.Interpolation.{Order, den_of, position_of, pair_by, path_by, shares_for, denominator, weighed, total, row_code}
use Rattle.rules.specs.Looking.{used, line_code}
use Rattle.rules.specs.Looking.Judging.{sum_of}
use Rattle.rules.specs.Picturing.{pixel_of}
use Rattle.rules.specs.Inverting.{off}
use Rattle.rules.specs.Looking.Readings.{Reading, Descends}
use Rattle.rules.specs.declared.Aim.{Aim}
use Rattle.rules.specs.declared.Form.{Form}
use Rattle.rules.specs.declared.Form.TheVariants.{Idle, Keyed, Data, Neither}
use Rattle.rules.specs.declared.Codes.{Codes}
use Rattle.rules.specs.declared.Colour.{Colour}
use Rattle.rules.specs.declared.Bits.{Bits}
use Rattle.rules.specs.declared.Depths.{Depths}
use Rattle.rules.specs.declared.Description.{Description}
use Rattle.rules.specs.declared.Kind.{Kind}
use Rattle.rules.specs.declared.Kind.TheVariants.{OneD, ThreeD}
use Rattle.rules.specs.declared.Share.{Share}
use Rattle.rules.specs.declared.Shares.{Shares}
use Rattle.rules.specs.declared.Title.{Title}
use Rattle.rules.specs.Results.{Look, look_of}

-- ---- demand 2

abbrev pub is_data : Form → Bool
is_data Idle = false
is_data (Keyed k) = false
is_data Data = true
is_data Neither = false

-- the data lines among lines, in order
unfoldable pub data_lines : List (List ℕ) → List (List ℕ)
data_lines [] = []
data_lines (l ∷ ls) = cond (is_data (form_of l)) (l ∷ data_lines ls) (data_lines ls)

-- the word of a colour on data line k of a file has exactly the value v, in ten-millionths
abbrev pub Written : List ℕ → ℕ → Colour → ℤ → Type 0
Written file k c v = Exact sample_places sample_limit (get_or (words_of (get_or (data_lines (lines_of file)) k [])) (colour_place c) []) v

-- a line begins at the start of the file or after a newline
abbrev pub Begins : List ℕ → Type 0
Begins before = (before ≡ []) ⊎ ((x : List ℕ) × (before ≡ x ++ (10 ∷ [])))

-- and ends at its end or at a newline
abbrev pub Ends : List ℕ → Type 0
Ends rest = (rest ≡ []) ⊎ ((x : List ℕ) × (rest ≡ 10 ∷ x))

-- the title's line stands in the file, and the title's bytes are the text between its quotes
pub record Titled (file : List ℕ) (t : Title) : Type 0 where
  pub before : List ℕ
  pub line : List ℕ
  pub rest : List ℕ
  pub file_so : file ≡ before ++ (line ++ rest)
  pub begins : Begins before
  pub ends : Ends rest
  pub line_so : TitleLine (length before) line t
  pub bytes_so : take t.length (drop t.place file) ≡ line_so.text

-- a file that keeps the specification: its samples first, later places as they were
pub record Kept (file : List ℕ) (table : List ℤ) (d : Description) (t : List ℤ) : Type 0 where
  pub samples : List ℤ
  pub keeps : Keeps file (length table) d samples
  pub memory : t ≡ samples ++ drop (3 * rows d) table

-- ---- demand 3

-- what holds of each share
abbrev pub Each : (Share → Type 0) → List Share → Type 0
Each P [] = Unit {0}
Each P (s ∷ ss) = P s × Each P ss

-- of each share whose weight is above 0
abbrev pub Carried : (Share → Type 0) → List Share → Type 0
Carried P ss = Each (λ s. pos 0 <ℤ s.weight → P s) ss

-- S by any admissible reading of the positions and any order of equal fractions
pub data ByReading (d : Description) (table : List ℤ) (m : ℕ) (pixel : Codes) (c : Colour) : Kind → ℤ → Type 0 where
  line : (i f : ℕ) → Reading d.n (den_of d m c) (position_of d m pixel c) i f
      → ByReading d table m pixel c OneD (total table c (pair_by (den_of d m c) i f))
  cube : (i f : Colour → ℕ) (o : Order) → ((k : Colour) → Reading d.n (den_of d m k) (position_of d m pixel k) (i k) (f k)) → Descends f o
      → ByReading d table m pixel c ThreeD (total table c (path_by d.n (den_of d m c) i f o))

-- a colour's code, made of these rows with their weights, of a table with so many rows. den is D, what the weights add up to, m the M of the codes;
-- `Value` says which sums are S by an admissible reading, and `Rule` which rows and weights are those of the rule.
pub record Right (table : List ℤ) (c : Colour) (count den m : ℕ) (Value : ℤ → Type 0) (Rule : List Share → Type 0) (ss : List Share) (code : ℕ) : Type 0 where
  -- S / (D·10,000,000) is the exact value, the same by every admissible reading
  pub s : ℤ
  pub read_so : Value s
  pub read_otherwise : (t : ℤ) → Value t → t ≡ s
  -- no code is nearer to M times it, and of equally near ones this is the greatest
  pub nearest : Nearest (pos m *ℤ s) (denominator den) m code
  -- the rows and weights are those of the rule, the exact value is made of exactly these, and the weights add up to D
  pub by_rule : Rule ss
  pub shown : total table c ss ≡ s
  pub add_up : weights (weighed table c ss) ≡ pos den
  pub not_negative : Each (λ x. pos 0 ≤ℤ x.weight) ss
  pub in_table : Each (λ x. x.row < count) ss
  -- the code lies between the least and the greatest code of the rows whose weight is above 0
  pub below : (a : ℕ) → Carried (λ x. row_code m den table c x.row ≤ a) ss → code ≤ a
  pub above : (a : ℕ) → Carried (λ x. a ≤ row_code m den table c x.row) ss → a ≤ code

-- the codes and shares of an accepted look at a pixel, for one colour
abbrev pub LookRight : Description → List ℤ → Depths → Codes → Codes → Shares → Colour → Type 0
LookRight d table depths pixel codes shares c =
    Right table c (rows d) (den_of d (raw_m depths) c) (corrected_m depths)
    (ByReading d table (raw_m depths) pixel c d.kind)
    (λ ss. ss ≡ shares_for d (raw_m depths) pixel d.kind c)
    (used d.kind c shares)
    (code_in codes c)

-- an accepted look: its depths are known, and each colour is right
pub record AllRight (d : Description) (table : List ℤ) (bits : Bits) (pixel : Codes) (r : Look) : Type 0 where
  pub depths : Depths
  pub known : depths_of bits ≡ Some depths
  pub codes : Codes
  pub shares : Shares
  pub accepted : r ≡ look_of codes shares
  pub all_right : (c : Colour) → LookRight d table depths pixel codes shares c

-- pixel k of a run of codes
abbrev pub pixel_at : List ℕ → ℕ → Codes
pixel_at src k = pixel_of (get_or src (3 * k) 0) (get_or src (3 * k + 1) 0) (get_or src (3 * k + 2) 0)

-- the codes of pixel k of a picture are those of a look at it that is right
pub record PixelRight (d : Description) (table : List ℤ) (depths : Depths) (src dst' : List ℕ) (k : ℕ) : Type 0 where
  pub codes : Codes
  pub shares : Shares
  pub written : (c : Colour) → get_or dst' (3 * k + colour_place c) 0 ≡ code_in codes c
  pub all_right : (c : Colour) → LookRight d table depths (pixel_at src k) codes shares c

-- an accepted picture: whole pixels with room for their codes, each corrected, and later places as they were
pub record RightPicture (d : Description) (table : List ℤ) (bits : Bits) (src dst dst' : List ℕ) : Type 0 where
  pub depths : Depths
  pub known : depths_of bits ≡ Some depths
  pub whole : length src % 3 ≡ 0
  pub room : length src ≤ length dst
  pub as_long : length dst' ≡ length dst
  pub later : drop (length src) dst' ≡ drop (length src) dst
  pub pixels : (k : ℕ) → 3 * k < length src → PixelRight d table depths src dst' k

-- ---- document 02, Req 09: rows and weights that the second half accepts, and refuses with 26

-- rows of a table with so many, and weights that are not negative and add up to D
pub record Weighable (count den : ℕ) (ss : List Share) : Type 0 where
  pub in_table : Each (λ s. s.row < count) ss
  pub not_negative : Each (λ s. pos 0 ≤ℤ s.weight) ss
  pub add_up : sum_of ss ≡ pos den

-- what holds of some share
pub data Any (P : Share → Type 0) : List Share → Type 0 where
  here : {s : Share} {ss : List Share} → P s → Any P (s ∷ ss)
  there : {s : Share} {ss : List Share} → Any P ss → Any P (s ∷ ss)

-- 26: a row number not below the count of rows, a negative weight, or weights that do not add up to D
pub data Unfit (count den : ℕ) (ss : List Share) : Type 0 where
  row : Any (λ s. count ≤ s.row) ss → Unfit count den ss
  weight : Any (λ s. s.weight <ℤ pos 0) ss → Unfit count den ss
  sum : (sum_of ss ≡ pos den → ⊥) → Unfit count den ss

-- the code of a colour, of rows and weights that the second half accepts: the exact value is that of these, whoever wrote them
abbrev pub CodesRight : Description → List ℤ → Depths → Shares → Codes → Colour → Type 0
CodesRight d table depths shares codes c =
    Right table c (rows d) (den_of d (raw_m depths) c) (corrected_m depths)
    (λ s. s ≡ total table c (used d.kind c shares))
    (λ ss. ss ≡ used d.kind c shares)
    (used d.kind c shares)
    (code_in codes c)

-- ---- document 02, Req 04: a raw code that is answered for a wanted one, and the count of codes tried

-- of the raw codes up to m, with what each is corrected to: none comes nearer to the wanted code than this one, and none lower comes as near
pub record NearestCode (corrected : ℕ → ℕ) (m wanted code : ℕ) : Type 0 where
  pub inside : code ≤ m
  pub none_nearer : (k : ℕ) → k ≤ m → off corrected wanted code ≤ off corrected wanted k
  pub none_lower : (k : ℕ) → k < code → off corrected wanted code < off corrected wanted k

-- the first of them that is corrected to exactly the wanted code
pub record FirstHit (corrected : ℕ → ℕ) (m wanted k : ℕ) : Type 0 where
  pub inside : k ≤ m
  pub exact : corrected k ≡ wanted
  pub first : (j : ℕ) → j < k → corrected j ≡ wanted → ⊥

-- codes are tried up to the first exact hit, which is then the one answered, and without a hit all of them are
pub record Counted (corrected : ℕ → ℕ) (m wanted code count : ℕ) : Type 0 where
  pub up_to_hit : (k : ℕ) → FirstHit corrected m wanted k → (code ≡ k) × (count ≡ k + 1)
  pub whole_range : ((k : ℕ) → k ≤ m → corrected k ≡ wanted → ⊥) → count ≡ m + 1

-- some raw code comes within the tolerance
pub record Reached (corrected : ℕ → ℕ) (m wanted tolerance : ℕ) : Type 0 where
  pub code : ℕ
  pub inside : code ≤ m
  pub within : off corrected wanted code ≤ tolerance

-- an accepted inverse
pub record InverseRight (d : Description) (table : List ℤ) (depths : Depths) (aim : Aim) (code count : ℕ) : Type 0 where
  pub nearest : NearestCode (line_code d table depths aim.colour) (raw_m depths) aim.wanted code
  pub counted : Counted (line_code d table depths aim.colour) (raw_m depths) aim.wanted code count
  pub within : off (line_code d table depths aim.colour) aim.wanted code ≤ aim.tolerance
