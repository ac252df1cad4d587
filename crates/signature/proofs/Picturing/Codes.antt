-- What an accepted picture has passed: each of its pixels is one that look accepts, with these codes.
use Prim.Native.Nat.{ℕ, ◌+◌, ◌*◌, ◌%◌, ◌≤◌, ◌<◌}
use mathlib.Core.Path.{◌≡◌, refl, ap, subst, ◌∙◌}
use mathlib.Core.Bool.{true}
use mathlib.Core.List.{List}
use native.Mathlib.Omega.{arith}
use lib.IntN.{ℤ}
use lib.ListN.{length, drop, get_or, length-append, length-drop}
use Rattle.rules.specs.Units.{colour_place, code_in, depths_of, raw_m}
use Rattle.rules.specs.Descriptions.{could_be_read}
use Rattle.rules.specs.Looking.{shown, correct, look}
use Rattle.rules.specs.Answers.{codes_in, look_codes, picture_number}
use Rattle.rules.specs.Picturing.{corrected, picture, output_after}
use Rattle.rules.specs.Demands.{pixel_at}
use Rattle.rules.specs.declared.Colour.{Colour}
use Rattle.rules.specs.declared.Description.{Description}
use Rattle.rules.proofs.Colours.{place-below, code-at-place}
use Rattle.rules.proofs.Looking.Checks.{look-0}
use Rattle.rules.proofs.Picturing.Checks.{within_all, pixel-within, each-length, each_at}
use Rattle.rules.specs.declared.Bits.{Bits}
use Rattle.rules.specs.declared.Depths.{Depths}
use Rattle.signature.proofs.Picturing.Numbers.{PictureGiven, given-0, picture-given}
use Rattle.std.specs.Prelude.{Err, Ok, Some}
use Rattle.rules.specs.Results.{Picture, look_of}

-- what an accepted picture has passed
pub record PicturePassed (d : Description) (table : List ℤ) (bits : Bits) (src : List ℕ) (places : ℕ) : Type 0 where
  pub depths : Depths
  pub could : could_be_read d table ≡ true
  pub known : depths_of bits ≡ Some depths
  pub whole : length src % 3 ≡ 0
  pub room : length src ≤ places
  pub inside : within_all (raw_m depths) src ≡ true

module _ (d : Description) (table : List ℤ) (bits : Bits) (src : List ℕ) (places : ℕ) where
  pub picture-passed : picture d table bits src places ≡ (Ok tt) → PicturePassed d table bits src places
  picture-passed z = by (subst (PictureGiven d table bits src places) (ap picture_number z) (picture-given d table bits src places))
    where
      by : PictureGiven d table bits src places 0 → PicturePassed d table bits src places
      by (given-0 e depths k whole room inside) = record { depths = depths; could = e; known = k; whole = whole; room = room; inside = inside }

module _ (d : Description) (table : List ℤ) (bits : Bits) where
  -- the output keeps its length
  pub output-length : (src dst : List ℕ) → length (output_after d table bits src dst (picture d table bits src (length dst))) ≡ length dst
  unfolding output_after
  output-length src dst = by (picture d table bits src (length dst)) refl
    where
      by : (r : Picture) → picture d table bits src (length dst) ≡ r → length (output_after d table bits src dst r) ≡ length dst
      by (Ok _) e =
          let p = picture-passed d table bits src (length dst) e in
          length-append (corrected d table bits src) (drop (length src) dst)
          ∙ omega (arith, each-length (λ pixel. codes_in (look d table bits pixel)) src p.whole, length-drop (length src) dst, p.room)
      by (Err r) e = refl

  -- of an accepted picture look accepts every pixel, and the codes are those of look, pixel by pixel
  pub record PictureCodes (src : List ℕ) : Type 0 where
    pub depths : Depths
    pub known : depths_of bits ≡ Some depths
    pub accepts : (k : ℕ) → 3 * k < length src
        → look d table bits (pixel_at src k) ≡ look_of (correct d table depths (pixel_at src k)) (shown d (raw_m depths) (pixel_at src k) d.kind)
    pub as_long : length (corrected d table bits src) ≡ length src
    pub the_same : (k : ℕ) → 3 * k < length src → (c : Colour) → get_or (corrected d table bits src) (3 * k + colour_place c) 0 ≡ code_in (correct d table depths (pixel_at src k)) c

  pub picture-codes : (src : List ℕ) (places : ℕ) → picture d table bits src places ≡ (Ok tt) → PictureCodes src
  picture-codes src places e =
      record { depths = depths; known = p.known; accepts = accepts; as_long = each-length (λ pixel. codes_in (look d table bits pixel)) src p.whole; the_same = the_same }
    where
      p : PicturePassed d table bits src places
      p = picture-passed d table bits src places e

      depths : Depths
      depths = p.depths

      -- the length is a multiple of 3
      whole-pixel : (k : ℕ) → 3 * k < length src → 3 * k + 2 < length src
      whole-pixel k h = omega (arith, p.whole)

      accepts : (k : ℕ) → 3 * k < length src
          → look d table bits (pixel_at src k) ≡ look_of (correct d table depths (pixel_at src k)) (shown d (raw_m depths) (pixel_at src k) d.kind)
      accepts k h = look-0 d table bits (pixel_at src k) depths p.could p.known (pixel-within (raw_m depths) src p.inside k (whole-pixel k h))

      the_same : (k : ℕ) → 3 * k < length src → (c : Colour) → get_or (corrected d table bits src) (3 * k + colour_place c) 0 ≡ code_in (correct d table depths (pixel_at src k)) c
      the_same k h c =
          each_at (λ pixel. codes_in (look d table bits pixel)) src k (colour_place c) (place-below c) (whole-pixel k h)
          ∙ ap (λ r. get_or (look_codes r) (colour_place c) 0) (accepts k h)
          ∙ code-at-place (correct d table depths (pixel_at src k)) c
