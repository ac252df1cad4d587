-- One call after another: no look, picture or write of what an accepted reading wrote is 24, and where the depth is known and the codes are within it both are
-- accepted and right; and a picture's codes are those of look.
use Prim.Native.Nat.{ℕ, ◌+◌, ◌*◌, ◌%◌, ◌≤◌, ◌<◌}
use mathlib.Core.Path.{◌≡◌, refl, sym, ap, ◌∙◌}
use mathlib.Core.Bool.{true, true≢false}
use mathlib.Core.Logic.{inl, inr}
use mathlib.Core.List.{List, [], ◌∷◌, ◌++◌}
use native.Mathlib.Omega.{arith}
use lib.IntN.{ℤ}
use lib.ListN.{length, drop, get_or, get_or-append}
use Rattle.rules.specs.Units.{depths_of, raw_m, colour_place}
use Rattle.rules.specs.Descriptions.{could_be_read}
use Rattle.rules.specs.Looking.{within, shown, correct, look}
use Rattle.rules.specs.Picturing.{corrected, picture, output_after}
use Rattle.rules.specs.Answers.{look_number, look_codes, picture_number}
use Rattle.rules.specs.Writing.{title_bytes, title_fits}
use Rattle.rules.specs.Boundary.{described_in, pixel_in, title_at, look_in, ReadsC, LooksC, PicturesC, WritesC}
use Rattle.rules.specs.Demands.{pixel_at}
use Rattle.rules.specs.declared.Bits.{Bits}
use Rattle.rules.specs.declared.Colour.{Colour}
use Rattle.rules.specs.declared.Depths.{Depths}
use Rattle.rules.specs.declared.Description.{Description}
use Rattle.rules.proofs.Colours.{place-below, code-at-place}
use Rattle.rules.proofs.Looking.Checks.{look-0}
use Rattle.rules.proofs.Picturing.Checks.{within_all, picture-0}
use Rattle.rules.proofs.Boundary.Described.{called-described}
use Rattle.signature.proofs.Looking.Numbers.{look-not-24}
use Rattle.signature.proofs.Picturing.Numbers.{picture-not-24}
use Rattle.signature.proofs.Picturing.Codes.{picture-passed, PictureCodes, picture-codes}
use Rattle.signature.specs.Numbers.{OneOf}
use Rattle.signature.proofs.Writing.Writable.{kept-title-fits}
use Rattle.signature.proofs.Writing.Numbers.{WriteGiven, given-0, given-13, given-24, given-27, writes-exactly}
use Rattle.signature.proofs.Boundary.Crossing.{title-crosses}
use Rattle.signature.proofs.Boundary.Writes.{write-laid}
use Rattle.signature.proofs.Boundary.Reads.{read-accepted, read-bridge}
use Rattle.signature.proofs.Boundary.Looks.{LookAccepted, look-accepted}
use Rattle.signature.proofs.Boundary.Pictures.{PictureAccepted, accepted-by, output-given, picture-accepted}
use Rattle.std.specs.Prelude.{Ok, Some}
use Rattle.rules.specs.Results.{look_of}

module _ {file : List ℕ} {table table' eleven' : List ℤ} {line' : ℕ} (h : ReadsC file table 0 table' eleven' line') where
  abbrev bridged : (described_in eleven' ≡ Some (read-accepted h refl).d) × (could_be_read (read-accepted h refl).d table' ≡ true)
  bridged = read-bridge (read-accepted h refl)

  pub read-then-look : {bits : Bits} {pixel : List ℕ} {number : ℕ} {codes' rows' : List ℕ} {weights' : List ℤ}
      → LooksC eleven' table' bits pixel number codes' rows' weights' → number ≡ 24 → ⊥
  read-then-look {bits} {pixel} l e =
      look-not-24 _ table' bits (pixel_in pixel) bridged.1 (sym (l.number_so ∙ ap look_number (called-described _ (λ d. look d table' bits (pixel_in pixel)) eleven' bridged.0)) ∙ e)

  pub read-then-picture : {bits : Bits} {src dst : List ℕ} {number : ℕ} {dst' : List ℕ} → PicturesC eleven' table' bits src dst number dst' → number ≡ 24 → ⊥
  read-then-picture {bits} {src} {dst} p e =
      picture-not-24 _ table' bits src (length dst) bridged.1
      (sym (p.number_so ∙ ap picture_number (called-described _ (λ d. picture d table' bits src (length dst)) eleven' bridged.0)) ∙ e)

  -- nor is a write of it, with the title's bytes from where the eleven numbers say, 24 or 27
  pub read-then-write : {out : List ℕ} {number : ℕ} {out' : List ℕ} {length' : ℕ} → WritesC eleven' table' (title_bytes file (title_at eleven')) out number out' length'
      → OneOf number (0 ∷ 13 ∷ [])
  read-then-write {out} {number} w =
      let l = write-laid w bridged.0 in
      by number ((writes-exactly l.writes number).0 (sym l.number_so))
    where
      d : Description
      d = (read-accepted h refl).d

      fits : title_fits d.title.there (title_bytes file (title_at eleven')) ≡ true
      fits =
          let title_so : title_at eleven' ≡ d.title = ap title_at (read-accepted h refl).eleven-so ∙ title-crosses d in
          ap (λ t. title_fits d.title.there (title_bytes file t)) title_so ∙ kept-title-fits file (length table) d _ (read-accepted h refl).kept.keeps

      by : (n : ℕ) → WriteGiven d table' (title_bytes file (title_at eleven')) (length out) n → OneOf n (0 ∷ 13 ∷ [])
      by n (given-24 e) = absurd (true≢false (sym bridged.1 ∙ e))
      by n (given-27 e f) = absurd (true≢false (sym fits ∙ f))
      by n (given-13 e f short) = inr (inl refl)
      by n (given-0 v) = inl refl

  -- ---- demand 3 in one piece

  module _ {bits : Bits} {depths : Depths} (known : depths_of bits ≡ Some depths) where
    pub read-then-look-right : {pixel : List ℕ} {number : ℕ} {codes' rows' : List ℕ} {weights' : List ℤ} → within (raw_m depths) (pixel_in pixel) ≡ true
        → LooksC eleven' table' bits pixel number codes' rows' weights' → (number ≡ 0) × LookAccepted eleven' table' bits pixel codes' rows' weights'
    read-then-look-right {pixel} inside l =
        let accepted = look-0 _ table' bits (pixel_in pixel) depths bridged.1 known inside in
        let z = l.number_so ∙ ap look_number (called-described _ (λ d. look d table' bits (pixel_in pixel)) eleven' bridged.0 ∙ accepted) in
        (z, look-accepted l z)

    pub read-then-picture-right : {src dst : List ℕ} {number : ℕ} {dst' : List ℕ} → length src % 3 ≡ 0 → length src ≤ length dst → within_all (raw_m depths) src ≡ true
        → PicturesC eleven' table' bits src dst number dst' → (number ≡ 0) × PictureAccepted eleven' table' bits src dst dst'
    read-then-picture-right {src} {dst} whole room inside p =
        let accepted = picture-0 _ table' bits src (length dst) depths bridged.1 known whole room inside in
        let z = p.number_so ∙ ap picture_number (called-described _ (λ d. picture d table' bits src (length dst)) eleven' bridged.0 ∙ accepted) in
        (z, picture-accepted p z)

-- ---- a picture's codes are those of look

module _
    {eleven table : List ℤ} {bits : Bits} {src dst dst' : List ℕ} (p : PicturesC eleven table bits src dst 0 dst')
    {pixel : List ℕ} {number : ℕ} {codes' rows' : List ℕ} {weights' : List ℤ} (l : LooksC eleven table bits pixel number codes' rows' weights')
    (k : ℕ) (inside : 3 * k < length src) (same : pixel_in pixel ≡ pixel_at src k)
  where
    abbrev a : PictureAccepted eleven table bits src dst dst'
    a = picture-accepted p refl

    accepted : picture a.d table bits src (length dst) ≡ (Ok tt)
    accepted = accepted-by _ (sym (p.number_so ∙ ap picture_number (called-described _ (λ d. picture d table bits src (length dst)) eleven a.described)))

    q : PictureCodes a.d table bits src
    q = picture-codes a.d table bits src (length dst) accepted

    looked : look_in eleven table bits (pixel_in pixel) ≡ look_of (correct a.d table q.depths (pixel_at src k)) (shown a.d (raw_m q.depths) (pixel_at src k) a.d.kind)
    looked = called-described _ (λ d. look d table bits (pixel_in pixel)) eleven a.described ∙ ap (look a.d table bits) same ∙ q.accepts k inside

    output : dst' ≡ corrected a.d table bits src ++ drop (length src) dst
    unfolding output_after
    output = p.memory ∙ output-given eleven table bits src dst a.d a.described ∙ ap (output_after a.d table bits src dst) accepted

    -- of an accepted picture look accepts each pixel, with the codes that the picture has there
    pub picture-looks : (number ≡ 0) × ((c : Colour) → get_or dst' (3 * k + colour_place c) 0 ≡ get_or codes' (colour_place c) 0)
    picture-looks = (l.number_so ∙ ap look_number looked, code)
      where
        code : (c : Colour) → get_or dst' (3 * k + colour_place c) 0 ≡ get_or codes' (colour_place c) 0
        code c =
            ap (λ x. get_or x (3 * k + colour_place c) 0) output
            ∙ get_or-append (corrected a.d table bits src) (drop (length src) dst) 0 (3 * k + colour_place c)
            (omega (arith, inside, place-below c, (picture-passed a.d table bits src (length dst) accepted).whole, q.as_long))
            ∙ q.the_same k inside c
            ∙ sym (code-at-place (correct a.d table q.depths (pixel_at src k)) c)
            ∙ ap (λ x. get_or x (colour_place c) 0) (sym (l.codes_so ∙ ap look_codes looked))
