-- Document 02, Req 06: the C calls with one width for both depths are document 01's calls with that width, in all that they write.
use Prim.Native.Nat.{ℕ}
use mathlib.Core.Path.{◌≡◌, ap, ◌∙◌}
use mathlib.Core.List.{List}
use lib.IntN.{ℤ}
use lib.ListN.{length}
use Rattle.rules.specs.Units.{same_bits}
use Rattle.rules.specs.Answers.{look_number, look_codes, look_rows, look_weights, picture_number}
use Rattle.rules.specs.Boundary.{described_in, pixel_in, called, look_in, picture_in, output_in, LooksC, PicturesC}
use Rattle.rules.specs.declared.Codes.{Codes}
use Rattle.rules.specs.declared.Description.{Description}
use Rattle.rules.specs.declared.Refusal.TheVariants.{CouldNotBeRead}
use Rattle.rules.proofs.Boundary.Described.{called-described}
use Rattle.signature.specs.OneDepth.{look_one, picture_one, output_one}
use Rattle.signature.proofs.Looking.OneDepth.{look-one}
use Rattle.signature.proofs.Picturing.OneDepth.{picture-one, output-after-one}
use Rattle.std.specs.Prelude.{Err, Some}

-- ---- of any eleven numbers

module _ (eleven table : List ℤ) (bits : ℕ) where
  pub look-in-one : (pixel : Codes) → look_in eleven table (same_bits bits) pixel ≡ called (Err CouldNotBeRead) (λ d. look_one d table bits pixel) eleven
  look-in-one pixel = λ i. called (Err CouldNotBeRead) (λ d. look-one d table bits pixel i) eleven

  pub picture-in-one : (src : List ℕ) (places : ℕ)
      → picture_in eleven table (same_bits bits) src places ≡ called (Err CouldNotBeRead) (λ d. picture_one d table bits src places) eleven
  picture-in-one src places = λ i. called (Err CouldNotBeRead) (λ d. picture-one d table bits src places i) eleven

  pub output-in-one : (src dst : List ℕ)
      → output_in eleven table (same_bits bits) src dst ≡ called dst (λ d. output_one d table bits src dst (picture_one d table bits src (length dst))) eleven
  output-in-one src dst = λ i. called dst (λ d. output-after-one d table bits src dst i) eleven

-- ---- of numbers that describe a table: everything that is lent

module _ {eleven table : List ℤ} {bits : ℕ} {d : Description} (described : described_in eleven ≡ Some d) where
  pub looks-c-one-depth : {pixel : List ℕ} {number : ℕ} {codes' rows' : List ℕ} {weights' : List ℤ} → LooksC eleven table (same_bits bits) pixel number codes' rows' weights'
      → let r = look_one d table bits (pixel_in pixel) in (number ≡ look_number r) × (codes' ≡ look_codes r) × (rows' ≡ look_rows r) × (weights' ≡ look_weights r)
  looks-c-one-depth {pixel} l =
      let e = look-in-one eleven table bits (pixel_in pixel) ∙ called-described (Err CouldNotBeRead) (λ d. look_one d table bits (pixel_in pixel)) eleven described in
      (l.number_so ∙ ap look_number e, l.codes_so ∙ ap look_codes e, l.rows_so ∙ ap look_rows e, l.weights_so ∙ ap look_weights e)

  pub pictures-c-one-depth : {src dst : List ℕ} {number : ℕ} {dst' : List ℕ} → PicturesC eleven table (same_bits bits) src dst number dst'
      → let r = picture_one d table bits src (length dst) in (number ≡ picture_number r) × (dst' ≡ output_one d table bits src dst r)
  pictures-c-one-depth {src} {dst} p =
      let e = picture-in-one eleven table bits src (length dst)
      ∙ called-described (Err CouldNotBeRead) (λ d. picture_one d table bits src (length dst)) eleven described in
      let m = output-in-one eleven table bits src dst
      ∙ called-described dst (λ d. output_one d table bits src dst (picture_one d table bits src (length dst))) eleven described in
      (p.number_so ∙ ap picture_number e, p.memory ∙ m)
