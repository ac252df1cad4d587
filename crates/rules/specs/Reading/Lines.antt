-- Document 01, "Lines": bytes, lines and words.
use Rattle.std.specs.Prelude.{ℕ, ◌+◌, Bool, true, false, cond, not, ◌&&◌, ◌||◌, List, [], ◌∷◌, eqb, leb}
use Prim.Native.String.{String}
use Prim.Native.Char.{code}

-- the bytes of a quoted text
unfoldable pub bytes : String → List ℕ
bytes String.[] = []
bytes (String.◌∷◌ c s) = code c ∷ bytes s

-- ---- kinds of bytes

-- 0x20 to 0x7E, or tab
abbrev pub permitted : ℕ → Bool
permitted b = leb 32 b && leb b 126 || eqb b 9

abbrev pub newline : ℕ → Bool
newline b = eqb b 10

-- space or tab
abbrev pub blank : ℕ → Bool
blank b = eqb b 32 || eqb b 9

abbrev pub in_word : ℕ → Bool
in_word b = not (blank b)

-- 0 to 9
abbrev pub digit : ℕ → Bool
digit b = leb 48 b && leb b 57

abbrev pub plus_byte : ℕ → Bool
plus_byte b = eqb b 43

abbrev pub minus_byte : ℕ → Bool
minus_byte b = eqb b 45

abbrev pub point_byte : ℕ → Bool
point_byte b = eqb b 46

-- e or E
abbrev pub e_byte : ℕ → Bool
e_byte b = eqb b 101 || eqb b 69

-- a digit, +, - or .
abbrev pub number_byte : ℕ → Bool
number_byte b = digit b || plus_byte b || minus_byte b || point_byte b

-- #
abbrev pub hash : ℕ → Bool
hash b = eqb b 35

abbrev pub quote : ℕ → Bool
quote b = eqb b 34

-- the bytes of a title: neither quote nor tab
abbrev pub in_title : ℕ → Bool
in_title b = not (quote b || eqb b 9)

-- ---- runs of bytes

-- every byte of a list is of a kind
unfoldable pub every : (ℕ → Bool) → List ℕ → Bool
every kind [] = true
every kind (b ∷ rest) = kind b && every kind rest

-- the longest first run of bytes of a kind
unfoldable pub run : (ℕ → Bool) → List ℕ → List ℕ
run kind [] = []
run kind (b ∷ rest) = cond (kind b) (b ∷ run kind rest) []

-- what stands after it
unfoldable pub after : (ℕ → Bool) → List ℕ → List ℕ
after kind [] = []
after kind (b ∷ rest) = cond (kind b) (after kind rest) (b ∷ rest)

-- whether the first byte is of a kind
unfoldable pub starts : (ℕ → Bool) → List ℕ → Bool
starts kind [] = false
starts kind (b ∷ rest) = kind b

-- the same bytes
unfoldable pub same : List ℕ → List ℕ → Bool
same [] [] = true
same [] (y ∷ ys) = false
same (x ∷ xs) [] = false
same (x ∷ xs) (y ∷ ys) = eqb x y && same xs ys

-- ---- lines and words

-- a line has at most 250 bytes
abbrev pub line_limit : ℕ
line_limit = 250

-- a byte put in front of the first line or word
unfoldable pub on_first : ℕ → List (List ℕ) → List (List ℕ)
on_first b [] = (b ∷ []) ∷ []
on_first b (l ∷ ls) = (b ∷ l) ∷ ls

-- the lines of a file, parted by newline: one more than it has newlines
unfoldable pub lines_of : List ℕ → List (List ℕ)
lines_of [] = [] ∷ []
lines_of (b ∷ rest) = cond (newline b) ([] ∷ lines_of rest) (on_first b (lines_of rest))

-- how many newlines a list has
unfoldable pub newlines : List ℕ → ℕ
newlines [] = 0
newlines (b ∷ rest) = cond (newline b) (1 + newlines rest) (newlines rest)

-- a byte put in front of words: a blank makes none, and another byte joins the word that follows at once
abbrev pub into_words : ℕ → Bool → List (List ℕ) → List (List ℕ)
into_words b joins ws = cond (blank b) ws (cond joins (on_first b ws) ((b ∷ []) ∷ ws))

-- the words of a line: its longest runs of bytes other than space and tab
unfoldable pub words_of : List ℕ → List (List ℕ)
words_of [] = []
words_of (b ∷ rest) = into_words b (starts in_word rest) (words_of rest)
