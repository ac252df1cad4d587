-- Write answers 0, 13, 24 or 27, and when each is given: 27 where a title that is marked is too long or has a byte that is not plain, 13 where the text is longer
-- than the lent bytes.
use Prim.Native.Nat.{ℕ, ◌≤◌, ◌<◌}
use mathlib.Core.Path.{◌≡◌, refl, sym, subst, ap, ◌∙◌}
use mathlib.Core.Logic.{inl, inr, ◌↔◌}
use mathlib.Core.Bool.{Bool, true, false, not, ◌&&◌, true≢false}
use mathlib.Core.List.{List, [], ◌∷◌}
use native.Mathlib.Decide.{dec_le}
use native.Mathlib.Omega.{arith}
use borrow.Author.Tests.{leb-false, lt-leb, le-leb, eqb-true, eq-eqb, not-false}
use lib.Dec.{leb}
use lib.IntN.{ℤ}
use lib.ListN.{length, get_or}
use Rattle.rules.specs.Descriptions.{could_be_read}
use Rattle.rules.specs.Reading.Lines.{every, quote}
use Rattle.rules.specs.Writing.{file_text, title_byte, title_fits, title_limit, write}
use Rattle.rules.specs.Answers.{refusal_number, write_number}
use Rattle.rules.specs.Promises.{Writes}
use Rattle.rules.specs.declared.Description.{Description}
use Rattle.rules.specs.declared.Refusal.TheVariants.{TooLittleRoom, CouldNotBeRead, TitleNotPlain}
use Rattle.rules.proofs.Tests.{and-fails}
use Rattle.signature.specs.Numbers.{OneOf}
use Rattle.signature.proofs.Either.{fails-some, some-fails}
use Rattle.std.specs.Prelude.{Err, Ok}
use Rattle.rules.specs.Results.{Write}

-- ---- what 27 is

-- a byte that no title has
pub data NotPlain (b : ℕ) : Type 0 where
  a-quote : b ≡ 34 → NotPlain b
  too-low : b < 32 → NotPlain b
  too-high : 126 < b → NotPlain b

pub byte-not-plain : (b : ℕ) → (title_byte b ≡ false) ↔ NotPlain b
byte-not-plain b = (by (leb 32 b) refl (leb b 126) refl, of)
  where
    by : (low : Bool) → leb 32 b ≡ low → (high : Bool) → leb b 126 ≡ high → low && (high && not (quote b)) ≡ false → NotPlain b
    by false p high q e = too-low (leb-false 32 b p)
    by true p false q e = too-high (leb-false b 126 q)
    by true p true q e = a-quote (eqb-true b 34 (not-false (quote b) e))

    of : NotPlain b → title_byte b ≡ false
    of (a-quote e) = and-fails (leb 32 b) _ (inl (and-fails (leb b 126) _ (inl (ap not (eq-eqb b 34 e)))))
    of (too-low h) = and-fails (leb 32 b) _ (inr (lt-leb 32 b h))
    of (too-high h) = and-fails (leb 32 b) _ (inl (and-fails (leb b 126) _ (inr (lt-leb b 126 h))))

-- a title over 242 bytes, or with such a byte at some place
pub data TitleOdd (title : List ℕ) : Type 0 where
  too_long : 242 < length title → TitleOdd title
  odd-at : (k : ℕ) → k < length title → NotPlain (get_or title k 0) → TitleOdd title

-- where the mark is set, and only there, such a title does not fit
pub title-odd : (there : Bool) (title : List ℕ) → (title_fits there title ≡ false) ↔ ((there ≡ true) × TitleOdd title)
unfolding title_fits
title-odd false title = (λ e. absurd (true≢false e), λ h. absurd (true≢false (sym h.0)))
title-odd true title = (λ e. (refl, by (leb (length title) title_limit) refl e), λ h. of h.1)
  where
    by : (t : Bool) → leb (length title) title_limit ≡ t → t && every title_byte title ≡ false → TitleOdd title
    by false p e = too_long (leb-false (length title) title_limit p)
    by true p e = let (k, inside, odd) = some-fails title_byte title e in odd-at k inside ((byte-not-plain _).0 odd)

    of : TitleOdd title → leb (length title) title_limit && every title_byte title ≡ false
    of (too_long h) = and-fails (leb (length title) title_limit) _ (inr (lt-leb (length title) title_limit h))
    of (odd-at k inside odd) = and-fails (leb (length title) title_limit) _ (inl (fails-some title_byte title k inside ((byte-not-plain _).1 odd)))

-- ---- the answers by their cases: 24, 27, 13, accepted

module _ (d : Description) (table : List ℤ) (title : List ℕ) (places : ℕ) where
  pub write-24 : could_be_read d table ≡ false → write d table title places ≡ Err CouldNotBeRead
  unfolding write
  write-24 e = rw e

  module _ (readable : could_be_read d table ≡ true) where
    pub write-27 : title_fits d.title.there title ≡ false → write d table title places ≡ Err TitleNotPlain
    unfolding write
    write-27 odd = rw (readable, odd)

    module _ (fits : title_fits d.title.there title ≡ true) where
      pub write-13 : places < length (file_text d table title) → write d table title places ≡ Err TooLittleRoom
      unfolding write
      write-13 short = rw (readable, fits, lt-leb (length (file_text d table title)) places short)

      pub write-0 : length (file_text d table title) ≤ places → write d table title places ≡ Ok (length (file_text d table title))
      unfolding write
      write-0 room = rw (readable, fits, le-leb (length (file_text d table title)) places room)

-- ---- when each number is given

-- what an answer of 0 says
pub record Wrote (d : Description) (table : List ℤ) (title : List ℕ) (places : ℕ) : Type 0 where
  pub readable : could_be_read d table ≡ true
  pub fits : title_fits d.title.there title ≡ true
  pub room : length (file_text d table title) ≤ places

pub data WriteGiven (d : Description) (table : List ℤ) (title : List ℕ) (places : ℕ) : ℕ → Type 0 where
  -- what could not be read, whatever the title and the lent bytes
  given-24 : could_be_read d table ≡ false → WriteGiven d table title places 24
  -- a title that does not fit, whatever the lent bytes
  given-27 : could_be_read d table ≡ true → title_fits d.title.there title ≡ false → WriteGiven d table title places 27
  -- fewer lent bytes than the text's
  given-13 : could_be_read d table ≡ true → title_fits d.title.there title ≡ true → places < length (file_text d table title) → WriteGiven d table title places 13
  -- no fewer
  given-0 : Wrote d table title places → WriteGiven d table title places 0

module _ (d : Description) (table : List ℤ) (title : List ℕ) (places : ℕ) where
  -- the number of a write is one that is given there
  pub write-given : WriteGiven d table title places (write_number (write d table title places))
  unfolding refusal_number
  write-given = by (could_be_read d table) refl (title_fits d.title.there title) refl (dec_le (length (file_text d table title)) places)
    where
      Answer : Write → Type 0
      Answer r = WriteGiven d table title places (write_number r)

      by : (a : Bool) → could_be_read d table ≡ a → (b : Bool) → title_fits d.title.there title ≡ b → Dec (length (file_text d table title) ≤ places)
          → Answer (write d table title places)
      by false e b f room = subst Answer (sym (write-24 d table title places e)) (given-24 e)
      by true e false f room = subst Answer (sym (write-27 d table title places e f)) (given-27 e f)
      by true e true f (no over) =
          let short : places < length (file_text d table title) = omega arith in
          subst Answer (sym (write-13 d table title places e f short)) (given-13 e f short)
      by true e true f (yes room) = subst Answer (sym (write-0 d table title places e f room)) (given-0 (record { readable = e; fits = f; room = room }))

  -- and no other is given there
  pub given-write : (n : ℕ) → WriteGiven d table title places n → write_number (write d table title places) ≡ n
  unfolding refusal_number
  given-write n (given-24 e) = ap write_number (write-24 d table title places e)
  given-write n (given-27 e f) = ap write_number (write-27 d table title places e f)
  given-write n (given-13 e f short) = ap write_number (write-13 d table title places e f short)
  given-write n (given-0 w) = ap write_number (write-0 d table title places w.readable w.fits w.room)

  -- so a number is answered exactly where it is given
  pub write-exactly : (n : ℕ) → (write_number (write d table title places) ≡ n) ↔ WriteGiven d table title places n
  write-exactly n = (λ e. subst (WriteGiven d table title places) e write-given, given-write n)

  -- 24 exactly where the description and the table could not have been read
  pub exactly-24 : (write_number (write d table title places) ≡ 24) ↔ (could_be_read d table ≡ false)
  exactly-24 = (λ e. by ((write-exactly 24).0 e), λ e. given-write 24 (given-24 e))
    where
      by : WriteGiven d table title places 24 → could_be_read d table ≡ false
      by (given-24 e) = e

  -- 27 exactly where they could, the mark is set, and the title is over 242 bytes or has a byte that is not plain
  pub exactly-27 : (write_number (write d table title places) ≡ 27) ↔ ((could_be_read d table ≡ true) × (d.title.there ≡ true) × TitleOdd title)
  exactly-27 = (λ e. by ((write-exactly 27).0 e), λ h. given-write 27 (given-27 h.0 ((title-odd d.title.there title).1 (h.1, h.2))))
    where
      by : WriteGiven d table title places 27 → (could_be_read d table ≡ true) × (d.title.there ≡ true) × TitleOdd title
      by (given-27 e f) = let (there, odd) = (title-odd d.title.there title).0 f in (e, there, odd)

  -- 13 exactly where both checks pass and the lent bytes are fewer than the text's
  pub exactly-13 : (write_number (write d table title places) ≡ 13)
      ↔ ((could_be_read d table ≡ true) × (title_fits d.title.there title ≡ true) × (places < length (file_text d table title)))
  exactly-13 = (λ e. by ((write-exactly 13).0 e), λ h. given-write 13 (given-13 h.0 h.1 h.2))
    where
      by : WriteGiven d table title places 13 → (could_be_read d table ≡ true) × (title_fits d.title.there title ≡ true) × (places < length (file_text d table title))
      by (given-13 e f short) = (e, f, short)

  -- 0 exactly where the text fits
  pub exactly-0 : (write_number (write d table title places) ≡ 0) ↔ Wrote d table title places
  exactly-0 = (λ e. by ((write-exactly 0).0 e), λ w. given-write 0 (given-0 w))
    where
      by : WriteGiven d table title places 0 → Wrote d table title places
      by (given-0 w) = w

-- so it is for every call that keeps the promise of write
pub writes-exactly : {d : Description} {table : List ℤ} {title out out' : List ℕ} {r : Write} → Writes d table title out r out' → (n : ℕ)
    → (write_number r ≡ n) ↔ WriteGiven d table title (length out) n
writes-exactly {d} {table} {title} {out} h n =
    (λ e. (write-exactly d table title (length out) n).0 (sym h.number ∙ e), λ g. h.number ∙ given-write d table title (length out) n g)

-- ---- the numbers

abbrev pub OfWrite : Write → Type 0
OfWrite r = OneOf (write_number r) (0 ∷ 13 ∷ 24 ∷ 27 ∷ [])

given-number : {d : Description} {table : List ℤ} {title : List ℕ} {places : ℕ} (n : ℕ) → WriteGiven d table title places n → OneOf n (0 ∷ 13 ∷ 24 ∷ 27 ∷ [])
given-number n (given-24 e) = inr (inr (inl refl))
given-number n (given-27 e f) = inr (inr (inr (inl refl)))
given-number n (given-13 e f short) = inr (inl refl)
given-number n (given-0 w) = inl refl

-- write answers 0, 13, 24 or 27
pub write-number : (d : Description) (table : List ℤ) (title : List ℕ) (places : ℕ) → OfWrite (write d table title places)
write-number d table title places = given-number _ (write-given d table title places)

-- and so does every call that keeps the promise of write
pub writes-number : {d : Description} {table : List ℤ} {title out out' : List ℕ} {r : Write} → Writes d table title out r out' → OfWrite r
writes-number h = given-number _ ((writes-exactly h _).0 refl)
