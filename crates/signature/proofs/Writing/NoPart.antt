-- What plays no part in writing: the title's bytes where the mark is not set, the place and the length that the description itself has for its title, and what
-- stands in the table past 3·rows.
use Prim.Native.Nat.{ℕ, ◌*◌}
use mathlib.Core.Path.{◌≡◌, refl, ap, ◌∙◌}
use mathlib.Core.Bool.{Bool, true, false, cond, true≢false}
use mathlib.Core.List.{List, ◌++◌}
use lib.Dec.{leb}
use lib.IntN.{ℤ}
use lib.ListN.{length, take, drop}
use Rattle.rules.specs.Descriptions.{could_be_read, rows}
use Rattle.rules.specs.Reading.Grammar.{lowers, uppers}
use Rattle.rules.specs.Writing.{bounds_text, bytes_after, file_text, head_text, rows_text, size_text, title_fits, title_text, write}
use Rattle.rules.specs.Promises.{Writes}
use Rattle.rules.specs.declared.Description.{Description}
use Rattle.rules.specs.declared.Keyword.TheVariants.{ALower, AnUpper}
use Rattle.rules.specs.declared.Refusal.TheVariants.{TooLittleRoom, CouldNotBeRead, TitleNotPlain}
use Rattle.rules.specs.declared.Title.{Title}
use Rattle.rules.proofs.Answers.{is-writes, writes-is}
use Rattle.signature.proofs.LaterPlaces.{later-24}
use Rattle.signature.proofs.Untitled.{retitled, same-24}
use Rattle.std.specs.Prelude.{Err, Ok}
use Rattle.rules.specs.Results.{Write}

-- two inputs that are written alike: the same answer, and the same bytes afterwards
pub record WrittenAlike (d : Description) (table : List ℤ) (title : List ℕ) (e : Description) (other : List ℤ) (words : List ℕ) : Type 0 where
  pub answer : (places : ℕ) → write d table title places ≡ write e other words places
  pub memory : (out : List ℕ) (r : Write) → bytes_after d table title out r ≡ bytes_after e other words out r

-- what keeps the promise of the one keeps that of the other
pub alike-promised : {d e : Description} {table other : List ℤ} {title words out out' : List ℕ} {r : Write} → WrittenAlike d table title e other words
    → Writes d table title out r out' → Writes e other words out r out'
alike-promised {d} {e} {table} {other} {title} {words} {out} alike h =
    let same = alike.answer (length out) in
    is-writes ((writes-is h).0 ∙ same) (h.memory ∙ alike.memory out _ ∙ ap (bytes_after e other words out) same)

-- 24, 27 and the text decide all
alike-by : (d e : Description) (table other : List ℤ) (title words : List ℕ) → could_be_read d table ≡ could_be_read e other
    → title_fits d.title.there title ≡ title_fits e.title.there words → file_text d table title ≡ file_text e other words → WrittenAlike d table title e other words
unfolding write bytes_after
alike-by d e table other title words readable fits text = record { answer = answer; memory = memory }
  where
    answer : (places : ℕ) → write d table title places ≡ write e other words places
    answer places i =
        let n = length (text i) in
        cond (readable i) (cond (fits i) (cond (leb n places) (Ok n) (Err TooLittleRoom)) (Err TitleNotPlain)) (Err CouldNotBeRead)

    memory : (out : List ℕ) (r : Write) → bytes_after d table title out r ≡ bytes_after e other words out r
    memory out (Ok n) = ap (λ x. x ++ drop n out) text
    memory out (Err reason) = refl

module _ (d : Description) (table : List ℤ) (title : List ℕ) where
  -- the text by the title's line alone
  abbrev text-by : List ℕ → List ℕ
  text-by line = (line ++ (size_text d.kind d.n ++ (bounds_text ALower (lowers d) ++ bounds_text AnUpper (uppers d)))) ++ rows_text (take (3 * rows d) table)

  -- without the mark the title's bytes are neither written nor judged
  pub unmarked : d.title.there ≡ false → (other : List ℕ) → WrittenAlike d table title d table other
  unfolding file_text head_text title_text title_fits
  unmarked e other = alike-by d d table table title other refl (not-judged d.title.there e) (ap text-by (not-written d.title.there e))
    where
      not-judged : (there : Bool) → there ≡ false → title_fits there title ≡ title_fits there other
      not-judged false e = refl
      not-judged true e = absurd (true≢false e)

      not-written : (there : Bool) → there ≡ false → title_text there title ≡ title_text there other
      not-written false e = refl
      not-written true e = absurd (true≢false e)

  -- with the same mark, whatever place and length the description has for its title
  pub own-title : (t : Title) → t.there ≡ d.title.there → WrittenAlike (retitled d t) table title d table title
  unfolding file_text head_text
  own-title t mark =
      alike-by (retitled d t) d table table title title (same-24 d t table) (ap (λ there. title_fits there title) mark)
      (ap (λ there. text-by (title_text there title)) mark)

  -- tables with the same 3·rows first places, whatever stands after them
  pub later-places : (other : List ℤ) → take (3 * rows d) table ≡ take (3 * rows d) other → WrittenAlike d table title d other title
  unfolding file_text
  later-places other same = alike-by d d table other title title (later-24 table other d same) refl (ap (λ samples. head_text d title ++ rows_text samples) same)
