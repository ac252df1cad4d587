-- The demands, of `erythmoda_picture` itself: what its number says of the memory that it was lent.
use Prim.Native.Nat.{ℕ}
use mathlib.Core.Path.{◌≡◌, refl, sym, ap, ◌∙◌}
use mathlib.Core.List.{List}
use lib.IntN.{ℤ}
use lib.ListN.{length}
use Rattle.rules.specs.Picturing.{picture, output_after}
use Rattle.rules.specs.Answers.{picture_number}
use Rattle.rules.specs.Boundary.{described_in, output_in, PicturesC}
use Rattle.rules.specs.Demands.{RightPicture}
use Rattle.rules.specs.declared.Bits.{Bits}
use Rattle.rules.specs.declared.Description.{Description}
use Rattle.rules.specs.declared.Refusal.TheVariants.{CouldNotBeRead}
use Rattle.rules.proofs.Answers.{refused-not-0, is-pictures}
use Rattle.rules.proofs.Boundary.Described.{called-described, called-none, given}
use Rattle.signature.proofs.Picturing.Promised.{pictures-right}
use Rattle.std.specs.Prelude.{Err, None, Ok, Option, Some}
use Rattle.rules.specs.Results.{Picture}

-- what acceptance says: the eleven numbers describe a table, and the picture is right by it
pub record PictureAccepted (eleven table : List ℤ) (bits : Bits) (src dst dst' : List ℕ) : Type 0 where
  pub d : Description
  pub described : described_in eleven ≡ Some d
  pub picture-right : RightPicture d table bits src dst dst'

pub accepted-by : (r : Picture) → picture_number r ≡ 0 → r ≡ (Ok tt)
accepted-by (Ok _) z = refl
accepted-by (Err r) z = absurd (refused-not-0 r z)

-- the output of eleven numbers is that of their description, where they give one
pub output-given : (eleven table : List ℤ) (bits : Bits) (src dst : List ℕ) (d : Description) → described_in eleven ≡ Some d
    → output_in eleven table bits src dst ≡ output_after d table bits src dst (picture d table bits src (length dst))
output-given eleven table bits src dst d e = called-described dst (λ d. output_after d table bits src dst (picture d table bits src (length dst))) eleven e

module _ {eleven table : List ℤ} {bits : Bits} {src dst : List ℕ} {number : ℕ} {dst' : List ℕ} (h : PicturesC eleven table bits src dst number dst') where
  -- a refusal leaves the output as it was
  pub picture-refused : (number ≡ 0 → ⊥) → dst' ≡ dst
  unfolding output_after
  picture-refused not-0 = by (described_in eleven) refl
    where
      left : (d : Description) (r : Picture) → number ≡ picture_number r → output_after d table bits src dst r ≡ dst
      left d (Ok _) e = absurd (not-0 e)
      left d (Err r) e = refl

      by : (o : Option Description) → described_in eleven ≡ o → dst' ≡ dst
      by None e = h.memory ∙ called-none dst (λ d. output_after d table bits src dst (picture d table bits src (length dst))) eleven e
      by (Some d) e =
          h.memory ∙ output-given eleven table bits src dst d e
          ∙ left d (picture d table bits src (length dst)) (h.number_so ∙ ap picture_number (called-described _ (λ d. picture d table bits src (length dst)) eleven e))

  pub picture-accepted : number ≡ 0 → PictureAccepted eleven table bits src dst dst'
  picture-accepted z =
      let g = given {call = λ d. picture d table bits src (length dst)} eleven (λ a. picture_number a ≡ 0) (refused-not-0 CouldNotBeRead) (sym h.number_so ∙ z) in
      let accepted = accepted-by (picture g.d table bits src (length dst)) (sym (h.number_so ∙ ap picture_number g.answer-so) ∙ z) in
      record {
        d = g.d;
        described = g.described;
        picture-right = pictures-right (is-pictures (sym accepted) (h.memory ∙ output-given eleven table bits src dst g.d g.described));
      }
