-- The answers of picture by their cases, in the order of the checks, and the pixels of what is corrected.
use Prim.Native.Nat.{ℕ, zero, suc, ◌+◌, ◌*◌, ◌%◌, ◌≤◌, ◌<◌}
use mathlib.Core.Path.{◌≡◌, refl, sym, ap, ap₂, ◌∙◌}
use mathlib.Core.Bool.{Bool, true, false}
use mathlib.Core.List.{List, [], ◌∷◌, ◌++◌}
use native.Mathlib.Nat as NatL
use native.Mathlib.Omega.{arith}
use borrow.Author.Tests.{eq-eqb, ne_eqb, le-leb, lt-leb}
use lib.Dec.{leb}
use lib.IntN.{ℤ}
use lib.ListN.{length, get_or, length-append, get_or-append}
use lib.Seq.{get_or-append-add}
use Rattle.rules.specs.Units.{depths_of, raw_m}
use Rattle.rules.specs.Descriptions.{could_be_read}
use Rattle.rules.specs.Reading.Lines.{every}
use Rattle.rules.specs.Looking.{within, correct, look}
use Rattle.rules.specs.Answers.{codes_of, codes_in}
use Rattle.rules.specs.Picturing.{pixel_of, each_pixel, corrected, picture_with, picture_at, picture}
use Rattle.rules.specs.Demands.{pixel_at}
use Rattle.rules.specs.declared.Bits.{Bits}
use Rattle.rules.specs.declared.Codes.{Codes}
use Rattle.rules.specs.declared.Depths.{Depths}
use Rattle.rules.specs.declared.Description.{Description}
use Rattle.rules.specs.declared.Refusal.TheVariants.{DepthUnknown, PictureNotPixels, OutputTooShort, CodeTooGreat, CouldNotBeRead}
use Rattle.rules.proofs.Tests.{and_both, both-and}
use Rattle.rules.proofs.Looking.Checks.{look-0}
use Rattle.std.specs.Prelude.{Err, None, Ok, Some}

-- ---- picture: 24, 20, 21, 22, 23, accepted

-- no code of a picture is above m
abbrev pub within_all : ℕ → List ℕ → Bool
within_all m src = every (λ c. leb c m) src

module _ (d : Description) (table : List ℤ) (bits : Bits) (src : List ℕ) (places : ℕ) where
  pub picture-24 : could_be_read d table ≡ false → picture d table bits src places ≡ Err CouldNotBeRead
  unfolding picture
  picture-24 e = rw e

  picture-passed-24 : could_be_read d table ≡ true → picture d table bits src places ≡ picture_at (depths_of bits) src places
  unfolding picture
  picture-passed-24 e = rw e

  pub picture-20 : could_be_read d table ≡ true → depths_of bits ≡ None → picture d table bits src places ≡ Err DepthUnknown
  picture-20 e u = picture-passed-24 e ∙ ap (λ x. picture_at x src places) u

  module _ (depths : Depths) (e : could_be_read d table ≡ true) (k : depths_of bits ≡ Some depths) where
    picture-passed-20 : picture d table bits src places ≡ picture_with (raw_m depths) src places
    picture-passed-20 = picture-passed-24 e ∙ ap (λ x. picture_at x src places) k

    pub picture-21 : (length src % 3 ≡ 0 → ⊥) → picture d table bits src places ≡ Err PictureNotPixels
    unfolding picture_with
    picture-21 over = picture-passed-20 ∙ rw (ne_eqb (length src % 3) 0 over)

    module _ (whole : length src % 3 ≡ 0) where
      pub picture-22 : places < length src → picture d table bits src places ≡ Err OutputTooShort
      unfolding picture_with
      picture-22 short = picture-passed-20 ∙ rw (eq-eqb (length src % 3) 0 whole, lt-leb (length src) places short)

      module _ (room : length src ≤ places) where
        pub picture-23 : within_all (raw_m depths) src ≡ false → picture d table bits src places ≡ Err CodeTooGreat
        unfolding picture_with
        picture-23 w = picture-passed-20 ∙ rw (eq-eqb (length src % 3) 0 whole, le-leb (length src) places room, w)

        pub picture-0 : within_all (raw_m depths) src ≡ true → picture d table bits src places ≡ (Ok tt)
        unfolding picture_with
        picture-0 w = picture-passed-20 ∙ rw (eq-eqb (length src % 3) 0 whole, le-leb (length src) places room, w)

-- ---- the pixels of a picture

pub every-at : (kind : ℕ → Bool) (l : List ℕ) → every kind l ≡ true → (k : ℕ) → k < length l → kind (get_or l k 0) ≡ true
unfolding every
every-at kind [] e k h = absurd (omega arith)
every-at kind (b ∷ l) e zero h = (and_both _ _ e).0
every-at kind (b ∷ l) e (suc k) h = every-at kind l (and_both (kind b) _ e).1 k (omega arith)

pub pixel-within : (m : ℕ) (src : List ℕ) → within_all m src ≡ true → (k : ℕ) → 3 * k + 2 < length src → within m (pixel_at src k) ≡ true
unfolding within
pixel-within m src e k h =
    both-and _ _ (every-at _ src e (3 * k) (omega arith))
    (both-and _ _ (every-at _ src e (3 * k + 1) (omega arith)) (every-at _ src e (3 * k + 2) h))

later-pixel : (r g b : ℕ) (rest : List ℕ) (k : ℕ) → pixel_at (r ∷ g ∷ b ∷ rest) (suc k) ≡ pixel_at rest k
later-pixel r g b rest k i = record {
  red = later (3 * suc k) (3 * k) (omega arith) i;
  green = later (3 * suc k + 1) (3 * k + 1) (omega arith) i;
  blue = later (3 * suc k + 2) (3 * k + 2) (omega arith) i;
}
  where
    later : (p q : ℕ) → p ≡ suc (suc (suc q)) → get_or (r ∷ g ∷ b ∷ rest) p 0 ≡ get_or rest q 0
    later p q e = ap (λ x. get_or (r ∷ g ∷ b ∷ rest) x 0) e

-- ---- what a function makes of each pixel

module _ (f : Codes → Codes) where
  pub each-length : (src : List ℕ) → length src % 3 ≡ 0 → length (each_pixel f src) ≡ length src
  unfolding each_pixel
  each-length [] h = refl
  each-length (r ∷ []) h = absurd (omega arith)
  each-length (r ∷ g ∷ []) h = absurd (omega arith)
  each-length (r ∷ g ∷ b ∷ rest) h =
      let tail = each-length rest (omega arith) in
      length-append (codes_of (f (pixel_of r g b))) (each_pixel f rest) ∙ omega arith

  -- code j of pixel k of what is made is code j of what the function makes of pixel k
  pub each_at : (src : List ℕ) (k j : ℕ) → j < 3 → 3 * k + 2 < length src → get_or (each_pixel f src) (3 * k + j) 0 ≡ get_or (codes_of (f (pixel_at src k))) j 0
  unfolding each_pixel
  each_at [] k j l h = absurd (omega arith)
  each_at (r ∷ []) k j l h = absurd (omega arith)
  each_at (r ∷ g ∷ []) k j l h = absurd (omega arith)
  each_at (r ∷ g ∷ b ∷ rest) zero j l h =
      let codes = codes_of (f (pixel_of r g b)) in
      ap (λ i. get_or (codes ++ each_pixel f rest) i 0) (NatL.zero-add j) ∙ get_or-append codes (each_pixel f rest) 0 j (omega arith)
  each_at (r ∷ g ∷ b ∷ rest) (suc k) j l h =
      let codes = codes_of (f (pixel_of r g b)) in
      let on : 3 * suc k + j ≡ length codes + (3 * k + j) = omega arith in
      ap (λ i. get_or (codes ++ each_pixel f rest) i 0) on
      ∙ get_or-append-add codes (each_pixel f rest) (3 * k + j) 0
      ∙ each_at rest k j l (omega arith)
      ∙ ap (λ p. get_or (codes_of (f p)) j 0) (sym (later-pixel r g b rest k))

-- two functions that make the same of each pixel make the same of all
pub each_same : (f g : Codes → Codes) (src : List ℕ) → ((k : ℕ) → 3 * k + 2 < length src → f (pixel_at src k) ≡ g (pixel_at src k)) → each_pixel f src ≡ each_pixel g src
unfolding each_pixel
each_same f g [] h = refl
each_same f g (r ∷ []) h = refl
each_same f g (r ∷ q ∷ []) h = refl
each_same f g (r ∷ q ∷ b ∷ rest) h =
    ap₂ (λ x y. codes_of x ++ y) (h 0 (omega arith))
    (each_same f g rest (λ k l. let e = later-pixel r q b rest k in ap f (sym e) ∙ h (suc k) (omega arith) ∙ ap g e))

-- ---- the codes of a picture that has passed the checks: what the rule makes of each pixel

module _ (d : Description) (table : List ℤ) (bits : Bits) (depths : Depths) (could : could_be_read d table ≡ true) (known : depths_of bits ≡ Some depths) where
  pub corrected-is : (src : List ℕ) → within_all (raw_m depths) src ≡ true → corrected d table bits src ≡ each_pixel (correct d table depths) src
  corrected-is src inside =
      each_same (λ pixel. codes_in (look d table bits pixel)) (correct d table depths) src
      (λ k h. ap codes_in (look-0 d table bits (pixel_at src k) depths could known (pixel-within (raw_m depths) src inside k h)))
