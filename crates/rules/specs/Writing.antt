-- Document 02, Req 02: the bytes of a file from a description, a table and a title's bytes.
use Rattle.std.specs.Prelude.{ℕ, ◌*◌, Bool, true, false, cond, not, ◌&&◌, List, [], ◌∷◌, ◌++◌, leb, ℤ, length, take, drop, Err, Ok}
use Rattle.rules.specs.Units.{sample_places, bound_places}
use Rattle.rules.specs.Fields.{parted}
use Rattle.rules.specs.Decimals.{decimal, decimals_of}
use Rattle.rules.specs.Descriptions.{no_title, rows, could_be_read}
use Rattle.rules.specs.Reading.Lines.{every, quote}
use Rattle.rules.specs.Reading.Items.{named}
use Rattle.rules.specs.Reading.Grammar.{lowers, uppers}
use Rattle.rules.specs.declared.Bounds.{Bounds}
use Rattle.rules.specs.declared.Description.{Description}
use Rattle.rules.specs.declared.Keyword.{Keyword}
use Rattle.rules.specs.declared.Keyword.TheVariants.{ATitle, ALower, AnUpper, ASize}
use Rattle.rules.specs.declared.Kind.{Kind}
use Rattle.rules.specs.declared.Refusal.TheVariants.{TooLittleRoom, CouldNotBeRead, TitleNotPlain}
use Rattle.rules.specs.declared.Title.{Title}
use Rattle.rules.specs.Results.{Write}

-- ---- the lines: one space between words, one newline after each line

-- where the description marks a title: TITLE, and the title's bytes between quotes
unfoldable pub title_text : Bool → List ℕ → List ℕ
title_text false title = []
title_text true title = parted 32 (named ATitle ∷ (34 ∷ (title ++ (34 ∷ []))) ∷ [])

unfoldable pub size_text : Kind → ℕ → List ℕ
size_text k n = parted 32 (named (ASize k) ∷ decimal n ∷ [])

-- numbers use the fewest characters without an exponent, with a 0 before the point
unfoldable pub bounds_text : Keyword → Bounds → List ℕ
bounds_text k b =
    parted 32 (named k ∷ decimals_of bound_places b.red.0 ∷ decimals_of bound_places b.green.0 ∷ decimals_of bound_places b.blue.0 ∷ [])

unfoldable pub row_text : ℤ → ℤ → ℤ → List ℕ
row_text r g b = parted 32 (decimals_of sample_places r ∷ decimals_of sample_places g ∷ decimals_of sample_places b ∷ [])

-- three numbers to a row
unfoldable pub rows_text : List ℤ → List ℕ
rows_text [] = []
rows_text (r ∷ []) = []
rows_text (r ∷ g ∷ []) = []
rows_text (r ∷ g ∷ b ∷ rest) = row_text r g b ++ rows_text rest

-- title, size, both domain lines
unfoldable pub head_text : Description → List ℕ → List ℕ
head_text d title =
    title_text d.title.there title ++ (size_text d.kind d.n ++ (bounds_text ALower (lowers d) ++ bounds_text AnUpper (uppers d)))

-- then the rows; table places past 3·rows play no part
unfoldable pub file_text : Description → List ℤ → List ℕ → List ℕ
file_text d table title = head_text d title ++ rows_text (take (3 * rows d) table)

-- ---- 27

-- the title's line has then at most 250 bytes
abbrev pub title_limit : ℕ
title_limit = 242

-- 0x20 to 0x7E, and no quote
abbrev pub title_byte : ℕ → Bool
title_byte b = leb 32 b && (leb b 126 && not (quote b))

-- without the mark the title's bytes are not judged
unfoldable pub title_fits : Bool → List ℕ → Bool
title_fits false title = true
title_fits true title = leb (length title) title_limit && every title_byte title

-- ---- the answer

-- the checks run 24, 27, 13; the answer is the text's length
unfoldable pub write : Description → List ℤ → List ℕ → ℕ → Write
write d table title places =
    cond (could_be_read d table)
    (cond (title_fits d.title.there title)
    (cond (leb (length (file_text d table title)) places) (Ok (length (file_text d table title)))
    (Err TooLittleRoom))
    (Err TitleNotPlain))
    (Err CouldNotBeRead)

-- the lent bytes afterwards: the text, later bytes as they were; after a refusal as they were
unfoldable pub bytes_after : Description → List ℤ → List ℕ → List ℕ → Write → List ℕ
bytes_after d table title out (Ok n) = file_text d table title ++ drop n out
bytes_after d table title out (Err r) = out

-- ---- the description of the new file

-- the title stands after TITLE, a space and a quote
abbrev pub title_place : ℕ
title_place = 7

-- the title in the new file, or none
unfoldable pub new_title : Bool → List ℕ → Title
new_title false title = no_title
new_title true title = record { there = true; place = title_place; length = length title }

-- a description with its title's place and length fitted to the new file
unfoldable pub fitted : Description → List ℕ → Description
fitted d title = record {
  kind = d.kind;
  n = d.n;
  red = d.red;
  green = d.green;
  blue = d.blue;
  title = new_title d.title.there title;
}

-- the title's bytes in a file, from where a description says
abbrev pub title_bytes : List ℕ → Title → List ℕ
title_bytes file t = take t.length (drop t.place file)
