-- The paper's numbers and values of an answer, put together again, are that answer: so a promise is met by one answer, and one memory, alone.
use Prim.Native.Nat.{ℕ, ◌<◌}
use mathlib.Core.Path.{◌≡◌, refl, sym, ap, ◌∙◌}
use mathlib.Core.Bool.{Bool, true, false}
use mathlib.Core.List.{List, [], ◌∷◌}
use borrow.Author.Tests.{leb-true, leb-false}
use lib.Dec.{leb}
use lib.IntN.{ℤ}
use lib.ListN.{length, get_or, get_or-eq_default}
use Rattle.rules.specs.Reading.{read, check, table_after}
use Rattle.rules.specs.Looking.{first_half, second_half, look}
use Rattle.rules.specs.Picturing.{picture, output_after}
use Rattle.rules.specs.Writing.{write, bytes_after}
use Rattle.rules.specs.Inverting.{inverse}
use Rattle.rules.specs.Answers.{refusal_number, read_number, read_line, read_description, look_number, look_codes, look_rows, look_weights, first_number, first_rows, first_weights, second_number, second_codes, picture_number, write_number, written_length, inverse_number, inverse_code, inverse_count}
use Rattle.rules.specs.Promises.{Reads, Checks, Looks, FindsRows, GivesCodes, Pictures, Writes, Inverts}
use Rattle.rules.specs.Boundary.{pixel_in, shares_in}
use Rattle.rules.specs.declared.Aim.{Aim}
use Rattle.rules.specs.declared.Bits.{Bits}
use Rattle.rules.specs.declared.Codes.{Codes}
use Rattle.rules.specs.declared.Description.{Description}
use Rattle.rules.specs.declared.Refusal.{Refusal}
use Rattle.rules.specs.declared.Refusal.TheVariants.{LineTooLong, ByteNotPermitted, NeitherDataNorKeyword, KeywordAfterData, KeywordRepeated, ParametersWrong, SizeOutOfRange, DomainNumberWrong, NoSize, LowerNotBelowUpper, DomainTooWide, DomainsDiffer, TooLittleRoom, TooManyRows, NotThreeNumbers, SampleBeyond, SampleTooFine, TooFewRows, HalfADomain, DepthUnknown, PictureNotPixels, OutputTooShort, CodeTooGreat, CouldNotBeRead, RowsOrWeightsWrong, TitleNotPlain, NoneWithinTolerance, InputTooLong}
use Rattle.rules.specs.declared.Shares.{Shares}
use Rattle.rules.proofs.Tests.{no-some}
use Rattle.std.specs.Prelude.{Err, None, Ok, Option, Some}
use Rattle.rules.specs.Results.{FirstHalf, Inverse, Look, Picture, Read, SecondHalf, Write, inverse_of, look_of, no_inverse, refused_on}

-- ---- a refusal by its number

-- the papers' table, from 0 on
abbrev numbered : List (Option Refusal)
numbered =
    None
    ∷ Some LineTooLong
    ∷ Some ByteNotPermitted
    ∷ Some NeitherDataNorKeyword
    ∷ Some KeywordAfterData
    ∷ Some KeywordRepeated
    ∷ Some ParametersWrong
    ∷ Some SizeOutOfRange
    ∷ Some DomainNumberWrong
    ∷ Some NoSize
    ∷ Some LowerNotBelowUpper
    ∷ Some DomainTooWide
    ∷ Some DomainsDiffer
    ∷ Some TooLittleRoom
    ∷ Some TooManyRows
    ∷ Some NotThreeNumbers
    ∷ Some SampleBeyond
    ∷ Some SampleTooFine
    ∷ Some TooFewRows
    ∷ Some HalfADomain
    ∷ Some DepthUnknown
    ∷ Some PictureNotPixels
    ∷ Some OutputTooShort
    ∷ Some CodeTooGreat
    ∷ Some CouldNotBeRead
    ∷ None
    ∷ Some RowsOrWeightsWrong
    ∷ Some TitleNotPlain
    ∷ Some NoneWithinTolerance
    ∷ None
    ∷ Some InputTooLong
    ∷ []

abbrev pub refusalOf : ℕ → Option Refusal
refusalOf n = get_or numbered n None

pub refusal-of-number : (r : Refusal) → refusalOf (refusal_number r) ≡ Some r
unfolding refusal_number
refusal-of-number LineTooLong = refl
refusal-of-number ByteNotPermitted = refl
refusal-of-number NeitherDataNorKeyword = refl
refusal-of-number KeywordAfterData = refl
refusal-of-number KeywordRepeated = refl
refusal-of-number ParametersWrong = refl
refusal-of-number SizeOutOfRange = refl
refusal-of-number DomainNumberWrong = refl
refusal-of-number NoSize = refl
refusal-of-number LowerNotBelowUpper = refl
refusal-of-number DomainTooWide = refl
refusal-of-number DomainsDiffer = refl
refusal-of-number TooLittleRoom = refl
refusal-of-number TooManyRows = refl
refusal-of-number NotThreeNumbers = refl
refusal-of-number SampleBeyond = refl
refusal-of-number SampleTooFine = refl
refusal-of-number TooFewRows = refl
refusal-of-number HalfADomain = refl
refusal-of-number DepthUnknown = refl
refusal-of-number PictureNotPixels = refl
refusal-of-number OutputTooShort = refl
refusal-of-number CodeTooGreat = refl
refusal-of-number CouldNotBeRead = refl
refusal-of-number RowsOrWeightsWrong = refl
refusal-of-number TitleNotPlain = refl
refusal-of-number NoneWithinTolerance = refl
refusal-of-number InputTooLong = refl

-- no refusal has the number of acceptance
pub refused-not-0 : (r : Refusal) → refusal_number r ≡ 0 → ⊥
refused-not-0 r e = no-some r (sym (refusal-of-number r) ∙ ap refusalOf e)

-- the last number is 30
pub number-below : (r : Refusal) → refusal_number r < 31
number-below r = split (leb 31 (refusal_number r)) refl
  where
    split : (t : Bool) → leb 31 (refusal_number r) ≡ t → refusal_number r < 31
    split true e = absurd (no-some r (sym (refusal-of-number r) ∙ get_or-eq_default numbered None {n = refusal_number r} (leb-true 31 (refusal_number r) e)))
    split false e = leb-false _ _ e

-- ---- look, put together again

abbrev lookFrom : Option Refusal → List ℕ → List ℕ → List ℤ → Look
lookFrom None codes rows weights = look_of (pixel_in codes) (shares_in rows weights)
lookFrom (Some r) codes rows weights = Err r

look-again : (r : Look) → lookFrom (refusalOf (look_number r)) (look_codes r) (look_rows r) (look_weights r) ≡ r
look-again (Ok x) = refl
look-again (Err r) = rw (refusal-of-number r)

module _ {d : Description} {table : List ℤ} {bits : Bits} {pixel : Codes} where
  pub looks-is : {r : Look} → Looks d table bits pixel r → r ≡ look d table bits pixel
  looks-is {r} l =
      let again : lookFrom (refusalOf (look_number r)) (look_codes r) (look_rows r) (look_weights r) ≡ _ =
      λ i. lookFrom (refusalOf (l.number i)) (l.codes i) (l.rows i) (l.weights i) in
      sym (look-again r) ∙ again ∙ look-again (look d table bits pixel)

  pub is-looks : {r : Look} → r ≡ look d table bits pixel → Looks d table bits pixel r
  is-looks e = record { number = ap look_number e; codes = ap look_codes e; rows = ap look_rows e; weights = ap look_weights e }

-- ---- the halves of a look

abbrev firstFrom : Option Refusal → List ℕ → List ℤ → FirstHalf
firstFrom None rows weights = Ok (shares_in rows weights)
firstFrom (Some r) rows weights = Err r

first-again : (r : FirstHalf) → firstFrom (refusalOf (first_number r)) (first_rows r) (first_weights r) ≡ r
first-again (Ok shares) = refl
first-again (Err r) = rw (refusal-of-number r)

module _ {d : Description} {table : List ℤ} {raw : ℕ} {pixel : Codes} where
  pub finds-is : {r : FirstHalf} → FindsRows d table raw pixel r → r ≡ first_half d table raw pixel
  finds-is {r} f =
      let again : firstFrom (refusalOf (first_number r)) (first_rows r) (first_weights r) ≡ _ = λ i. firstFrom (refusalOf (f.number i)) (f.rows i) (f.weights i) in
      sym (first-again r) ∙ again ∙ first-again (first_half d table raw pixel)

  pub is-finds : {r : FirstHalf} → r ≡ first_half d table raw pixel → FindsRows d table raw pixel r
  is-finds e = record { number = ap first_number e; rows = ap first_rows e; weights = ap first_weights e }

abbrev secondFrom : Option Refusal → List ℕ → SecondHalf
secondFrom None codes = Ok (pixel_in codes)
secondFrom (Some r) codes = Err r

second-again : (r : SecondHalf) → secondFrom (refusalOf (second_number r)) (second_codes r) ≡ r
second-again (Ok codes) = refl
second-again (Err r) = rw (refusal-of-number r)

module _ {d : Description} {table : List ℤ} {bits : Bits} {shares : Shares} where
  pub gives-is : {r : SecondHalf} → GivesCodes d table bits shares r → r ≡ second_half d table bits shares
  gives-is {r} g =
      let again : secondFrom (refusalOf (second_number r)) (second_codes r) ≡ _ = λ i. secondFrom (refusalOf (g.number i)) (g.codes i) in
      sym (second-again r) ∙ again ∙ second-again (second_half d table bits shares)

  pub is-gives : {r : SecondHalf} → r ≡ second_half d table bits shares → GivesCodes d table bits shares r
  is-gives e = record { number = ap second_number e; codes = ap second_codes e }

-- ---- picture

abbrev pictureFrom : Option Refusal → Picture
pictureFrom None = Ok tt
pictureFrom (Some r) = Err r

picture-again : (r : Picture) → pictureFrom (refusalOf (picture_number r)) ≡ r
picture-again (Ok _) = refl
picture-again (Err r) = rw (refusal-of-number r)

module _ {d : Description} {table : List ℤ} {bits : Bits} {src dst : List ℕ} where
  pub pictures-is : {r : Picture} {dst' : List ℕ} → Pictures d table bits src dst r dst'
      → (r ≡ picture d table bits src (length dst)) × (dst' ≡ output_after d table bits src dst (picture d table bits src (length dst)))
  pictures-is {r} p =
      (sym (picture-again r) ∙ ap (λ n. pictureFrom (refusalOf n)) p.number ∙ picture-again (picture d table bits src (length dst)), p.memory)

  pub is-pictures : {r : Picture} {dst' : List ℕ} → r ≡ picture d table bits src (length dst)
      → dst' ≡ output_after d table bits src dst (picture d table bits src (length dst)) → Pictures d table bits src dst r dst'
  is-pictures e m = record { number = ap picture_number e; memory = m }

-- ---- writing

abbrev writeFrom : Option Refusal → ℕ → Write
writeFrom None n = Ok n
writeFrom (Some r) n = Err r

write_again : (r : Write) → writeFrom (refusalOf (write_number r)) (written_length r) ≡ r
write_again (Ok n) = refl
write_again (Err r) = rw (refusal-of-number r)

module _ {d : Description} {table : List ℤ} {title out : List ℕ} where
  pub writes-is : {r : Write} {out' : List ℕ} → Writes d table title out r out'
      → (r ≡ write d table title (length out)) × (out' ≡ bytes_after d table title out (write d table title (length out)))
  writes-is {r} p =
      let again : writeFrom (refusalOf (write_number r)) (written_length r) ≡ _ = λ i. writeFrom (refusalOf (p.number i)) (p.length_so i) in
      (sym (write_again r) ∙ again ∙ write_again (write d table title (length out)), p.memory)

  pub is-writes : {r : Write} {out' : List ℕ} → r ≡ write d table title (length out)
      → out' ≡ bytes_after d table title out (write d table title (length out)) → Writes d table title out r out'
  is-writes e m = record { number = ap write_number e; length_so = ap written_length e; memory = m }

-- ---- the inverse

abbrev inverseFrom : Option Refusal → ℕ → ℕ → Inverse
inverseFrom None code count = inverse_of code count
inverseFrom (Some r) code count = no_inverse r count

inverse-again : (r : Inverse) → inverseFrom (refusalOf (inverse_number r)) (inverse_code r) (inverse_count r) ≡ r
inverse-again (Ok x) = refl
inverse-again (Err x) = rw (refusal-of-number x.reason)

module _ {d : Description} {table : List ℤ} {bits : Bits} {aim : Aim} where
  pub inverts-is : {r : Inverse} → Inverts d table bits aim r → r ≡ inverse d table bits aim
  inverts-is {r} p =
      let again : inverseFrom (refusalOf (inverse_number r)) (inverse_code r) (inverse_count r) ≡ _ =
      λ i. inverseFrom (refusalOf (p.number i)) (p.code i) (p.count i) in
      sym (inverse-again r) ∙ again ∙ inverse-again (inverse d table bits aim)

  pub is-inverts : {r : Inverse} → r ≡ inverse d table bits aim → Inverts d table bits aim r
  is-inverts e = record { number = ap inverse_number e; code = ap inverse_code e; count = ap inverse_count e }

-- ---- reading

abbrev readFrom : Option Refusal → ℕ → Description → Read
readFrom None line d = Ok d
readFrom (Some r) line d = refused_on r line

read_again : (r : Read) → readFrom (refusalOf (read_number r)) (read_line r) (read_description r) ≡ r
read_again (Ok d) = refl
read_again (Err x) = rw (refusal-of-number x.reason)

-- an answer is its number, its line and its description
read_same : {r s : Read} → read_number r ≡ read_number s → read_line r ≡ read_line s → read_description r ≡ read_description s → r ≡ s
read_same {r} {s} number line description =
    let again : readFrom (refusalOf (read_number r)) (read_line r) (read_description r) ≡ _ =
    λ i. readFrom (refusalOf (number i)) (line i) (description i) in
    sym (read_again r) ∙ again ∙ read_again s

module _ {file : List ℕ} {table : List ℤ} where
  pub reads-is : {r : Read} {table' : List ℤ} → Reads file table r table' → (r ≡ read file (length table)) × (table' ≡ table_after file table (read file (length table)))
  reads-is p = (read_same p.number p.line p.description, p.memory)

  pub is-reads : {r : Read} {table' : List ℤ} → r ≡ read file (length table) → table' ≡ table_after file table (read file (length table)) → Reads file table r table'
  is-reads e m = record { number = ap read_number e; line = ap read_line e; description = ap read_description e; memory = m }

-- ---- a file judged with no table

module _ {file : List ℕ} where
  pub checks-is : {r : Read} → Checks file r → r ≡ check file
  checks-is p = read_same p.number p.line p.description

  pub is-checks : {r : Read} → r ≡ check file → Checks file r
  is-checks e = record { number = ap read_number e; line = ap read_line e; description = ap read_description e }
