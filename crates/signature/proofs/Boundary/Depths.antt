-- Document 02, Req 06: what the two depths decide of the C calls. Where the eleven numbers describe a table each number is given as behind them, 20 exactly where
-- one depth is unknown, and no code of an accepted look or picture is above the M of corrected codes.
use Prim.Native.Nat.{ℕ, ◌≤◌, ◌<◌}
use mathlib.Core.Path.{◌≡◌, sym, ap, subst, ◌∙◌}
use mathlib.Core.Bool.{true}
use mathlib.Core.List.{List}
use native.Mathlib.Omega.{arith}
use lib.IntN.{ℤ}
use lib.ListN.{length, get_or}
use Rattle.rules.specs.Units.{depths_of, corrected_m, colour_place}
use Rattle.rules.specs.Descriptions.{could_be_read}
use Rattle.rules.specs.Looking.{look}
use Rattle.rules.specs.Picturing.{picture}
use Rattle.rules.specs.Answers.{look_number, picture_number, refusal_number}
use Rattle.rules.specs.Boundary.{described_in, pixel_in, LooksC, PicturesC}
use Rattle.rules.specs.declared.Bits.{Bits}
use Rattle.rules.specs.declared.Colour.{Colour}
use Rattle.rules.specs.declared.Depths.{Depths}
use Rattle.rules.specs.declared.Description.{Description}
use Rattle.rules.proofs.Colours.{code-at-place}
use Rattle.rules.proofs.KnownDepths.{OneUnknown, depths-one}
use Rattle.rules.proofs.Boundary.Described.{called-described, given}
use Rattle.signature.proofs.Looking.Numbers as LN
use Rattle.signature.proofs.Looking.Depths.{look-20-only}
use Rattle.signature.proofs.Picturing.Numbers as PN
use Rattle.signature.proofs.Picturing.Depths.{right-picture-most, picture-20-only}
use Rattle.signature.proofs.Boundary.Looks.{look-accepted}
use Rattle.signature.proofs.Boundary.Pictures.{picture-accepted}
use Rattle.std.specs.Prelude.{Some}

-- ---- look

module _
    {eleven table : List ℤ} {bits : Bits} {pixel : List ℕ} {number : ℕ} {codes' rows' : List ℕ} {weights' : List ℤ}
    (h : LooksC eleven table bits pixel number codes' rows' weights')
  where
    -- when each number is given
    pub looks-c-given : {d : Description} → described_in eleven ≡ Some d → LN.LookGiven d table bits (pixel_in pixel) number
    looks-c-given {d} described =
        let e = h.number_so ∙ ap look_number (called-described _ (λ d. look d table bits (pixel_in pixel)) eleven described) in
        subst (LN.LookGiven d table bits (pixel_in pixel)) (sym e) (LN.look-given d table bits (pixel_in pixel))

    -- one depth is unknown, whatever the pixel
    pub looks-c-20 : {d : Description} → described_in eleven ≡ Some d → could_be_read d table ≡ true → OneUnknown bits → number ≡ 20
    looks-c-20 {d} described could u =
        h.number_so ∙ ap look_number (called-described _ (λ d. look d table bits (pixel_in pixel)) eleven described)
        ∙ LN.given-look d table bits (pixel_in pixel) 20 (LN.given-20 could u)

    -- there alone
    pub looks-c-20-only : number ≡ 20 → OneUnknown bits
    unfolding refusal_number
    looks-c-20-only z =
        let not-24 : ◌≡◌ {A = ℕ} 24 20 → ⊥ = λ e. omega arith in
        let g = given {call = λ d. look d table bits (pixel_in pixel)} eleven (λ a. look_number a ≡ 20) not-24 (sym h.number_so ∙ z) in
        (look-20-only g.d table bits (pixel_in pixel) (sym (h.number_so ∙ ap look_number g.answer-so) ∙ z)).1

    -- every code of an accepted look is at most the corrected M
    pub looks-c-most : {depths : Depths} → depths_of bits ≡ Some depths → number ≡ 0 → (c : Colour) → get_or codes' (colour_place c) 0 ≤ corrected_m depths
    looks-c-most {depths} known z c =
        let a = look-accepted h z in
        let code : get_or codes' (colour_place c) 0 ≡ _ = ap (λ x. get_or x (colour_place c) 0) a.codes_so ∙ code-at-place a.codes c in
        let most = subst (λ x. x ≤ corrected_m a.depths) (sym code) (a.all_right c).nearest.top in
        subst (λ x. get_or codes' (colour_place c) 0 ≤ corrected_m x) (depths-one bits a.depths depths a.known known) most

-- ---- picture

module _ {eleven table : List ℤ} {bits : Bits} {src dst : List ℕ} {number : ℕ} {dst' : List ℕ} (h : PicturesC eleven table bits src dst number dst') where
  -- when each number is given
  pub pictures-c-given : {d : Description} → described_in eleven ≡ Some d → PN.PictureGiven d table bits src (length dst) number
  pictures-c-given {d} described =
      let e = h.number_so ∙ ap picture_number (called-described _ (λ d. picture d table bits src (length dst)) eleven described) in
      subst (PN.PictureGiven d table bits src (length dst)) (sym e) (PN.picture-given d table bits src (length dst))

  -- one depth is unknown, whatever the picture and the output
  pub pictures-c-20 : {d : Description} → described_in eleven ≡ Some d → could_be_read d table ≡ true → OneUnknown bits → number ≡ 20
  pictures-c-20 {d} described could u =
      h.number_so ∙ ap picture_number (called-described _ (λ d. picture d table bits src (length dst)) eleven described)
      ∙ PN.given-picture d table bits src (length dst) 20 (PN.given-20 could u)

  -- there alone
  pub pictures-c-20-only : number ≡ 20 → OneUnknown bits
  unfolding refusal_number
  pictures-c-20-only z =
      let not-24 : ◌≡◌ {A = ℕ} 24 20 → ⊥ = λ e. omega arith in
      let g = given {call = λ d. picture d table bits src (length dst)} eleven (λ a. picture_number a ≡ 20) not-24 (sym h.number_so ∙ z) in
      (picture-20-only g.d table bits src (length dst) (sym (h.number_so ∙ ap picture_number g.answer-so) ∙ z)).1

  -- every code that an accepted picture writes is at most the corrected M
  pub pictures-c-most : {depths : Depths} → depths_of bits ≡ Some depths → number ≡ 0 → (k : ℕ) → k < length src → get_or dst' k 0 ≤ corrected_m depths
  pictures-c-most known z = right-picture-most known (picture-accepted h z).picture-right
