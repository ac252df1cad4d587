-- Reading what was written gives the fitted description and the samples again, and writing those gives the same text: what is written keeps the
-- specification, and a file keeps it in one way.
use Prim.Native.Nat.{ℕ, ◌+◌, ◌*◌, ◌≤◌}
use mathlib.Core.Path.{◌≡◌, refl, sym, ap, ap₂, subst, ◌∙◌}
use mathlib.Core.Bool.{Bool, true, false, cond}
use mathlib.Core.List.{List, [], ◌∷◌, ◌++◌, append_assoc}
use native.Mathlib.Omega.{arith}
use lib.Dec.{leb}
use lib.IntN.{ℤ}
use lib.ListN.{length, take, drop}
use lib.Seq.{length-take-le, take_at}
use Rattle.rules.specs.Descriptions.{could_be_read, rows}
use Rattle.rules.specs.Fields.{parted}
use Rattle.rules.specs.Reading.{read, samples_of, table_after}
use Rattle.rules.specs.Reading.Lines.{bytes, lines_of}
use Rattle.rules.specs.Reading.Grammar.{Keeps, lowers, uppers}
use Rattle.rules.specs.Writing.{bounds_text, file_text, fitted, head_text, new_title, rows_text, size_text, title_bytes, title_fits, title_text, write}
use Rattle.rules.specs.Answers.{write_number, written_length}
use Rattle.rules.specs.Promises.{Reads, Writes}
use Rattle.rules.specs.declared.Description.{Description}
use Rattle.rules.specs.declared.Keyword.TheVariants.{ALower, AnUpper}
use Rattle.rules.specs.declared.Refusal.TheVariants.{TooLittleRoom}
use Rattle.rules.specs.declared.Title.{Title}
use Rattle.rules.proofs.Tests.{no_true}
use Rattle.rules.proofs.Answers.{reads-is, writes-is}
use Rattle.rules.proofs.Sound.{sound-of}
use Rattle.rules.proofs.Reading.Acceptance.{keeps-accepted, keeps-one}
use Rattle.signature.proofs.Writing.Kept.{written_keeps}
use Rattle.signature.proofs.Writing.Writable.{accepted-writable}
use Rattle.signature.proofs.Writing.Numbers.{Wrote, write-0}
use Rattle.signature.proofs.Writing.Promised.{all-passed, length-written, text-written}
use Rattle.std.specs.Prelude.{Err, Ok}
use Rattle.rules.specs.Results.{Read, Write}

-- ---- the title's bytes

title-in-text : (title s : List ℕ) → title_bytes (title_text true title ++ s) (new_title true title) ≡ title
unfolding title_text new_title parted bytes
title-in-text title s =
    ap (take (length title)) (ap (λ (x : List ℕ). x ++ s) (append_assoc title (34 ∷ []) (10 ∷ [])) ∙ append_assoc title (34 ∷ 10 ∷ []) s)
    ∙ take_at title _ (length title) refl

-- so the title's line is the same again, and so is none
same-title : (there : Bool) (title s : List ℕ) → title_text (new_title there title).there (title_bytes (title_text there title ++ s) (new_title there title)) ≡ title_text there title
unfolding title_text new_title
same-title false title s = refl
same-title true title s = ap (title_text true) (title-in-text title s)

-- the title's line comes first in the file
title-leads : (d : Description) (table : List ℤ) (title : List ℕ) → (s : List ℕ) × (file_text d table title ≡ title_text d.title.there title ++ s)
unfolding file_text head_text
title-leads d table title = (_, append_assoc (title_text d.title.there title) _ (rows_text (take (3 * rows d) table)))

new-there : (d : Description) (title : List ℕ) → (fitted d title).title.there ≡ d.title.there
unfolding fitted new_title
new-there d title = by d.title.there
  where
    by : (there : Bool) → (new_title there title).there ≡ there
    by true = refl
    by false = refl

-- the title's bytes stand where the fitted description says
pub title-written : (d : Description) (table : List ℤ) (title : List ℕ) → d.title.there ≡ true → title_bytes (file_text d table title) (fitted d title).title ≡ title
unfolding fitted
title-written d table title e =
    let (s, leads) = title-leads d table title in
    ap (λ (x : List ℕ). title_bytes x (new_title d.title.there title)) leads ∙ by d.title.there s e
  where
    by : (there : Bool) (s : List ℕ) → there ≡ true → title_bytes (title_text there title ++ s) (new_title there title) ≡ title
    by true s e = title-in-text title s
    by false s e = absurd (no_true (sym e))

-- ---- what could have been read, with a title that fits

-- a table after reading what was written into it
abbrev pub table_read : Description → List ℤ → List ℕ → List ℤ → List ℤ
table_read d table title table' = table_after (file_text d table title) table' (read (file_text d table title) (length table'))

-- the title's bytes from where the description of what was written says
abbrev pub title_read : Description → List ℤ → List ℕ → List ℕ
title_read d table title = title_bytes (file_text d table title) (fitted d title).title

-- with room for a text, writing answers its length
abbrev answer_for : List ℕ → ℕ → Write
answer_for text places = cond (leb (length text) places) (Ok (length text)) (Err TooLittleRoom)

write-answers : (d : Description) (table : List ℤ) (title : List ℕ) (places : ℕ) → could_be_read d table ≡ true → title_fits d.title.there title ≡ true
    → write d table title places ≡ answer_for (file_text d table title) places
unfolding write
write-answers d table title places readable fits = rw (readable, fits)

module _ (d : Description) (table : List ℤ) (title : List ℕ) (readable : could_be_read d table ≡ true) (fits : title_fits d.title.there title ≡ true) where
  accepted : (places : ℕ) → 3 * rows d ≤ places
      → (read (file_text d table title) places ≡ Ok (fitted d title)) × (samples_of (lines_of (file_text d table title)) ≡ take (3 * rows d) table)
  accepted places room = keeps-accepted (file_text d table title) places (fitted d title) _ (written_keeps d table title places readable fits room)

  -- reading what was written is accepted, with the description fitted to the new file
  pub read-written : (places : ℕ) → 3 * rows d ≤ places → read (file_text d table title) places ≡ Ok (fitted d title)
  read-written places room = (accepted places room).0

  module _ (table' : List ℤ) (room : 3 * rows d ≤ length table') where
    -- into any table that is long enough: the samples first, later places as they were
    pub table-written : table_after (file_text d table title) table' (read (file_text d table title) (length table')) ≡ take (3 * rows d) table ++ drop (3 * rows d) table'
    unfolding table_after fitted
    table-written =
        let (answer, samples) = accepted (length table') room in
        ap (table_after (file_text d table title) table') answer ∙ ap (λ (xs : List ℤ). xs ++ drop (3 * rows d) table') samples

    same-samples : take (3 * rows d) (table_read d table title table') ≡ take (3 * rows d) table
    same-samples =
        let long : length (take (3 * rows d) table) ≡ 3 * rows d = length-take-le (3 * rows d) table (sound-of d table readable).long in
        ap (take (3 * rows d)) table-written ∙ take_at (take (3 * rows d) table) (drop (3 * rows d) table') (3 * rows d) long

    -- writing what was read from our own output is the same text
    pub written-again : file_text (fitted d title) (table_read d table title table') (title_read d table title) ≡ file_text d table title
    unfolding file_text head_text fitted
    written-again =
        let t = new_title d.title.there title in
        let (s, leads) = title-leads d table title in
        let title_so = ap (λ (x : List ℕ). title_text t.there (title_bytes x t)) leads ∙ same-title d.title.there title s in
        ap₂ (λ (x : List ℕ) (xs : List ℤ). (x ++ (size_text d.kind d.n ++ (bounds_text ALower (lowers d) ++ bounds_text AnUpper (uppers d)))) ++ rows_text xs) title_so same-samples

    -- and is not refused: with room for the text, writing answers its length
    pub write_again : (places : ℕ) → write (fitted d title) (table_read d table title table') (title_read d table title) places ≡ write d table title places
    write_again places =
        let file = file_text d table title in
        let e = fitted d title in
        let answer = read-written (length table') room in
        let (again, plain) = accepted-writable file table' e answer in
        write-answers e _ _ places (subst (λ (r : Read). could_be_read e (table_after file table' r) ≡ true) (sym answer) again) plain
        ∙ ap (λ (x : List ℕ). answer_for x places) written-again
        ∙ sym (write-answers d table title places readable fits)

-- ---- the same text comes from the same samples and description alone

module _ (d e : Description) (table₁ table₂ : List ℤ) (title₁ title₂ : List ℕ)
    (readable₁ : could_be_read d table₁ ≡ true) (fits₁ : title_fits d.title.there title₁ ≡ true)
    (readable₂ : could_be_read e table₂ ≡ true) (fits₂ : title_fits e.title.there title₂ ≡ true)
    (same : file_text d table₁ title₁ ≡ file_text e table₂ title₂) where
  -- a file keeps the specification in one way
  pub one-text : (fitted d title₁ ≡ fitted e title₂) × (take (3 * rows d) table₁ ≡ take (3 * rows e) table₂)
  one-text =
      let places = 3 * rows d + 3 * rows e in
      let k₁ = written_keeps d table₁ title₁ places readable₁ fits₁ (omega arith) in
      let k₂ = written_keeps e table₂ title₂ places readable₂ fits₂ (omega arith) in
      keeps-one (file_text e table₂ title₂) places _ _ _ _ (subst (λ (x : List ℕ). Keeps x places (fitted d title₁) (take (3 * rows d) table₁)) same k₁) k₂

  -- and from the same title's bytes where there is a title
  pub one-title : d.title.there ≡ true → title₁ ≡ title₂
  one-title there =
      let titles = ap (λ (x : Description). x.title) one-text.0 in
      let also : e.title.there ≡ true = sym (new-there e title₂) ∙ sym (ap (λ (t : Title). t.there) titles) ∙ new-there d title₁ ∙ there in
      sym (title-written d table₁ title₁ there) ∙ ap₂ title_bytes same titles ∙ title-written e table₂ title₂ also

-- ---- of every writer and reader that keep the promises

module _ {d : Description} {table : List ℤ} {title out : List ℕ} {r : Write} {out' : List ℕ} (writes : Writes d table title out r out') (accepts : write_number r ≡ 0) where
  abbrev file : List ℕ
  file = file_text d table title

  so : Wrote d table title (length out)
  so = all-passed writes accepts

  length_so : r ≡ Ok (length file)
  length_so = length-written writes accepts

  text_so : take (written_length r) out' ≡ file
  text_so = text-written writes accepts

  module _ {table' : List ℤ} (room : 3 * rows d ≤ length table') {r₂ : Read} {table'' : List ℤ} (reads : Reads (take (written_length r) out') table' r₂ table'') where
    memory-read : (r₂ ≡ read file (length table')) × (table'' ≡ table_read d table title table')
    memory-read = reads-is (subst (λ (x : List ℕ). Reads x table' r₂ table'') text_so reads)

    -- reading them gives the fitted description and the samples
    pub reads-written : (r₂ ≡ Ok (fitted d title)) × (table'' ≡ take (3 * rows d) table ++ drop (3 * rows d) table')
    reads-written = (
      memory-read.0 ∙ read-written d table title so.readable so.fits (length table') room,
      memory-read.1 ∙ table-written d table title so.readable so.fits table' room,
    )

    -- writing these where there is room gives the same answer and the same bytes
    pub writes_again : {out₂ : List ℕ} {r₃ : Write} {out₂' : List ℕ} → Writes (fitted d title) table'' (title_bytes (take (written_length r) out') (fitted d title).title) out₂ r₃ out₂'
        → written_length r ≤ length out₂ → (r₃ ≡ r) × (take (written_length r₃) out₂' ≡ take (written_length r) out')
    writes_again {out₂} {r₃} {out₂'} again long =
        let e = fitted d title in
        let again' : Writes e (table_read d table title table') (title_read d table title) out₂ r₃ out₂' =
        subst (λ (xs : List ℤ). Writes e xs (title_read d table title) out₂ r₃ out₂') memory-read.1
        (subst (λ (x : List ℕ). Writes e table'' (title_bytes x e.title) out₂ r₃ out₂') text_so again) in
        let same = written-again d table title so.readable so.fits table' room in
        let fit : length file ≤ length out₂ = subst (λ (n : ℕ). n ≤ length out₂) (ap written_length length_so) long in
        let answer = (writes-is again').0 ∙ write_again d table title so.readable so.fits table' room (length out₂) ∙ write-0 d table title (length out₂) so.readable so.fits fit in
        (answer ∙ sym length_so, text-written again' (ap write_number answer) ∙ same ∙ sym text_so)
