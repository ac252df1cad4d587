-- Document 01, "Lines": what a line says by itself, whatever stands before it.
use Rattle.std.specs.Prelude.{ℕ, ◌+◌, ◌-◌, Bool, true, false, cond, ◌&&◌, List, [], ◌∷◌, length, ℤ, Err, None, Ok, Option, Some}
use Rattle.rules.specs.Units.{sample_places, sample_limit, bound_places, bound_limit, in_range}
use Rattle.rules.specs.Reading.Lines.{blank, in_word, number_byte, hash, quote, in_title, every, run, after, starts, same, words_of}
use Rattle.rules.specs.Reading.Numerals.{digits, spell}
use Rattle.rules.specs.Reading.Numbers.{number_of}
use Rattle.rules.specs.Reading.Items.{named}
use Rattle.rules.specs.declared.Form.{Form}
use Rattle.rules.specs.declared.Form.TheVariants.{Idle, Keyed, Data, Neither}
use Rattle.rules.specs.declared.Item.{Item}
use Rattle.rules.specs.declared.Item.TheVariants.{Nothing, OfTitle, OfLower, OfUpper, OfSize, OfRow}
use Rattle.rules.specs.declared.Keyword.{Keyword}
use Rattle.rules.specs.declared.Keyword.TheVariants.{ATitle, ALower, AnUpper, ASize}
use Rattle.rules.specs.declared.Bounds.{Bounds}
use Rattle.rules.specs.declared.Kind.{Kind}
use Rattle.rules.specs.declared.Kind.TheVariants.{OneD, ThreeD}
use Rattle.rules.specs.declared.Refusal.{Refusal}
use Rattle.rules.specs.declared.Refusal.TheVariants.{NeitherDataNorKeyword, ParametersWrong, SizeOutOfRange, DomainNumberWrong, NotThreeNumbers, SampleBeyond, SampleTooFine}
use Rattle.rules.specs.declared.Row.{Row}
use Rattle.rules.specs.declared.Three.{Three}
use Rattle.rules.specs.declared.NumberFault.TheVariants.{Beyond, Finer, Malformed}
use Rattle.rules.specs.Results.{Content, Number}

-- ---- the form of a line

-- the word is this keyword, or what follows decides
abbrev pub or_else_try : List ℕ → Keyword → Option Keyword → Option Keyword
or_else_try w k next = cond (same w (named k)) (Some k) next

-- compared byte for byte, capitals included
unfoldable pub keyword_of : List ℕ → Option Keyword
keyword_of w = or_else_try w ATitle (or_else_try w ALower (or_else_try w AnUpper (or_else_try w (ASize OneD) (or_else_try w (ASize ThreeD) None))))

abbrev pub keyword_form : Option Keyword → Form
keyword_form None = Neither
keyword_form (Some k) = Keyed k

-- by the first word; blanks alone have none
unfoldable pub word_form : List (List ℕ) → Form
word_form [] = Neither
word_form (w ∷ ws) = cond (starts number_byte w) Data (keyword_form (keyword_of w))

-- an empty line, a comment, or by the first word
unfoldable pub form_of : List ℕ → Form
form_of [] = Idle
form_of (b ∷ rest) = cond (hash b) Idle (word_form (words_of (b ∷ rest)))

-- ---- TITLE, blanks, then a quote, text, a quote

-- a quote, and blanks alone after it
unfoldable pub closes : List ℕ → Bool
closes [] = false
closes (b ∷ trail) = quote b && every blank trail

-- from the opening quote on, in a line that ends at place `end`
unfoldable pub quoted : ℕ → List ℕ → Content
quoted end [] = Err ParametersWrong
quoted end (b ∷ rest) =
    cond (quote b && closes (after in_title rest))
    (Ok (OfTitle (record { there = true; place = end - length rest; length = length (run in_title rest) })))
    (Err ParametersWrong)

-- past the first word and the blanks after it; the line begins at place p
unfoldable pub title_of : ℕ → List ℕ → Content
title_of p l = quoted (p + length l) (after blank (after in_word (after blank l)))

-- ---- three numbers

abbrev pub formed : Number → Bool
formed (Ok v) = true
formed (Err Malformed) = false
formed (Err Beyond) = true
formed (Err Finer) = true

-- three words, each a number
unfoldable pub three_of : ℕ → ℕ → List (List ℕ) → Option Three
three_of places limit [] = None
three_of places limit (a ∷ []) = None
three_of places limit (a ∷ b ∷ []) = None
three_of places limit (a ∷ b ∷ c ∷ []) =
    cond (formed (number_of places limit a) && (formed (number_of places limit b) && formed (number_of places limit c)))
    (Some (record { first = number_of places limit a; second = number_of places limit b; third = number_of places limit c }))
    None
three_of places limit (a ∷ b ∷ c ∷ d ∷ more) = None

-- a number's value, or its refusal: for its form, beyond the limit, or no multiple of the unit
abbrev pub valued : Refusal → Refusal → Refusal → Number → (ℤ → Content) → Content
valued unformed beyond finer (Ok v) next = next v
valued unformed beyond finer (Err Malformed) next = Err unformed
valued unformed beyond finer (Err Beyond) next = Err beyond
valued unformed beyond finer (Err Finer) next = Err finer

-- the form of all three, then the values left to right
abbrev pub values : Refusal → Refusal → Refusal → Option Three → (ℤ → ℤ → ℤ → Content) → Content
values unformed beyond finer None next = Err unformed
values unformed beyond finer (Some t) next =
    valued unformed beyond finer t.first (λ x. valued unformed beyond finer t.second (λ y. valued unformed beyond finer t.third (λ z. next x y z)))

-- three bounds: 6, 8
abbrev pub bounds_at : ℤ → ℤ → ℤ → Bounds
bounds_at x y z = record { red = record { 0 = x }; green = record { 0 = y }; blue = record { 0 = z } }

unfoldable pub bounds_of : (Bounds → Item) → List (List ℕ) → Content
bounds_of side ws =
    values ParametersWrong DomainNumberWrong DomainNumberWrong (three_of bound_places bound_limit ws) (λ x y z. Ok (side (bounds_at x y z)))

-- three samples: 15, then 16 before 17 in each
abbrev pub row_of : ℤ → ℤ → ℤ → Row
row_of x y z = record { red = record { 0 = x }; green = record { 0 = y }; blue = record { 0 = z } }

unfoldable pub samples_on : List (List ℕ) → Content
samples_on ws = values NotThreeNumbers SampleBeyond SampleTooFine (three_of sample_places sample_limit ws) (λ x y z. Ok (OfRow (row_of x y z)))

-- ---- N, digits alone: 6, 7

abbrev pub sized : Kind → ℕ → Content
sized k n = cond (in_range k n) (Ok (OfSize (record { kind = k; n = n }))) (Err SizeOutOfRange)

unfoldable pub size_of : Kind → List (List ℕ) → Content
size_of k [] = Err ParametersWrong
size_of k (w ∷ []) = cond (digits w) (sized k (spell 0 w)) (Err ParametersWrong)
size_of k (w ∷ v ∷ more) = Err ParametersWrong

-- ---- what a line says, by its form; it begins at place p

-- the words after the first
unfoldable pub parameters : List (List ℕ) → List (List ℕ)
parameters [] = []
parameters (w ∷ ws) = ws

unfoldable pub content_by : Form → ℕ → List ℕ → Content
content_by Idle p l = Ok Nothing
content_by (Keyed ATitle) p l = title_of p l
content_by (Keyed ALower) p l = bounds_of OfLower (parameters (words_of l))
content_by (Keyed AnUpper) p l = bounds_of OfUpper (parameters (words_of l))
content_by (Keyed (ASize k)) p l = size_of k (parameters (words_of l))
content_by Data p l = samples_on (words_of l)
content_by Neither p l = Err NeitherDataNorKeyword

abbrev pub content_of : ℕ → List ℕ → Content
content_of p l = content_by (form_of l) p l
