-- Document 02, Req 07: of 1D tables, and of 3D tables with one domain, the C calls are what they were, in all that they write.
use Prim.Native.Nat.{ℕ}
use mathlib.Core.Path.{◌≡◌, ap, ◌∙◌}
use mathlib.Core.Bool.{true}
use mathlib.Core.List.{List}
use lib.IntN.{ℤ}
use lib.ListN.{length}
use Rattle.rules.specs.Looking.{look}
use Rattle.rules.specs.Picturing.{picture}
use Rattle.rules.specs.Answers.{look_number, look_codes, look_rows, look_weights, picture_number}
use Rattle.rules.specs.Boundary.{described_in, pixel_in, LooksC, PicturesC}
use Rattle.rules.specs.declared.Bits.{Bits}
use Rattle.rules.specs.declared.Description.{Description}
use Rattle.rules.specs.declared.Refusal.TheVariants.{CouldNotBeRead}
use Rattle.rules.proofs.Boundary.Described.{called-described}
use Rattle.signature.specs.OneDomain.{agree_before, look_before, picture_before, output_before}
use Rattle.signature.proofs.Looking.OneDomain.{look-one-domain}
use Rattle.signature.proofs.Picturing.OneDomain.{picture-one-domain, output-after-one-domain}
use Rattle.signature.proofs.Boundary.Pictures.{output-given}
use Rattle.std.specs.Prelude.{Err, Some}

module _ {eleven table : List ℤ} {bits : Bits} {d : Description} (described : described_in eleven ≡ Some d) (one : agree_before d.kind d ≡ true) where
  pub looks-c-one-domain : {pixel : List ℕ} {number : ℕ} {codes' rows' : List ℕ} {weights' : List ℤ} → LooksC eleven table bits pixel number codes' rows' weights'
      → let r = look_before d table bits (pixel_in pixel) in (number ≡ look_number r) × (codes' ≡ look_codes r) × (rows' ≡ look_rows r) × (weights' ≡ look_weights r)
  looks-c-one-domain {pixel} l =
      let e = called-described (Err CouldNotBeRead) (λ d. look d table bits (pixel_in pixel)) eleven described ∙ look-one-domain d one table bits (pixel_in pixel) in
      (l.number_so ∙ ap look_number e, l.codes_so ∙ ap look_codes e, l.rows_so ∙ ap look_rows e, l.weights_so ∙ ap look_weights e)

  pub pictures-c-one-domain : {src dst : List ℕ} {number : ℕ} {dst' : List ℕ} → PicturesC eleven table bits src dst number dst'
      → let r = picture_before d table bits src (length dst) in (number ≡ picture_number r) × (dst' ≡ output_before d table bits src dst r)
  pictures-c-one-domain {src} {dst} p =
      let e = called-described (Err CouldNotBeRead) (λ d. picture d table bits src (length dst)) eleven described
      ∙ picture-one-domain d table bits one src (length dst) in
      let m = output-given eleven table bits src dst d described ∙ output-after-one-domain d table bits one src dst in
      (p.number_so ∙ ap picture_number e, p.memory ∙ m)
