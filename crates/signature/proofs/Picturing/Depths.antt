-- Document 02, Req 06: what the two depths decide of picture. 20 is given exactly where one of them is unknown, whatever the picture and the output, 23 goes by
-- the M of raw codes, and no code that an accepted picture writes is above the M of corrected codes.
use Prim.Native.Nat.{ℕ, zero, suc, ◌+◌, ◌*◌, ◌/◌, ◌%◌, ◌≤◌, ◌<◌}
use mathlib.Core.Path.{◌≡◌, refl, sym, subst}
use mathlib.Core.Logic.{inl, inr}
use mathlib.Core.Bool.{true}
use mathlib.Core.List.{List}
use native.Mathlib.Omega.{arith}
use lib.IntN.{ℤ}
use lib.ListN.{length, get_or}
use Rattle.rules.specs.Units.{depth_of, depths_of, raw_m, corrected_m, colour_place}
use Rattle.rules.specs.Descriptions.{could_be_read}
use Rattle.rules.specs.Picturing.{picture}
use Rattle.rules.specs.Answers.{picture_number}
use Rattle.rules.specs.Promises.{Pictures}
use Rattle.rules.specs.Demands.{RightPicture}
use Rattle.rules.specs.declared.Bits.{Bits}
use Rattle.rules.specs.declared.Colour.{Colour}
use Rattle.rules.specs.declared.Colour.TheVariants.{Red, Green, Blue}
use Rattle.rules.specs.declared.Depth.{Depth}
use Rattle.rules.specs.declared.Depths.{Depths}
use Rattle.rules.specs.declared.Description.{Description}
use Rattle.rules.proofs.KnownDepths.{OneUnknown, depths-one}
use Rattle.signature.proofs.Picturing.Numbers.{PictureGiven, given-20, given-23, picture-given, given-picture}
use Rattle.signature.proofs.Picturing.Promised.{pictures-right}
use Rattle.std.specs.Prelude.{None, Ok, Some}

-- ---- 20 and 23

-- known depths, and a code above the M of raw codes
pub record SomeAboveRaw (bits : Bits) (src : List ℕ) : Type 0 where
  pub depths : Depths
  pub known : depths_of bits ≡ Some depths
  pub place : ℕ
  pub inside : place < length src
  pub above : raw_m depths < get_or src place 0

module _ (d : Description) (table : List ℤ) (bits : Bits) (src : List ℕ) (places : ℕ) where
  -- the raw depth is unknown
  pub picture-20-raw : could_be_read d table ≡ true → depth_of bits.raw ≡ None → picture_number (picture d table bits src places) ≡ 20
  picture-20-raw could u = given-picture d table bits src places 20 (given-20 could (inl u))

  -- the raw depth is known and the corrected is not, also where a code is above M
  pub picture-20-corrected : could_be_read d table ≡ true → (raw : Depth) → depth_of bits.raw ≡ Some raw → depth_of bits.corrected ≡ None
      → picture_number (picture d table bits src places) ≡ 20
  picture-20-corrected could raw k u = given-picture d table bits src places 20 (given-20 could (inr (raw, k, u)))

  -- there alone
  pub picture-20-only : picture_number (picture d table bits src places) ≡ 20 → (could_be_read d table ≡ true) × OneUnknown bits
  picture-20-only z = by (subst (PictureGiven d table bits src places) z (picture-given d table bits src places))
    where
      by : PictureGiven d table bits src places 20 → (could_be_read d table ≡ true) × OneUnknown bits
      by (given-20 could u) = (could, u)

  -- 23 is given exactly where both depths are known, whole pixels have room, and a code is above the raw M
  pub picture-23-raw : could_be_read d table ≡ true → length src % 3 ≡ 0 → length src ≤ places → SomeAboveRaw bits src
      → picture_number (picture d table bits src places) ≡ 23
  picture-23-raw could whole room a =
      given-picture d table bits src places 23 (given-23 could a.depths a.known whole room a.place a.inside a.above)

  pub picture-23-only : picture_number (picture d table bits src places) ≡ 23
      → (could_be_read d table ≡ true) × (length src % 3 ≡ 0) × (length src ≤ places) × SomeAboveRaw bits src
  picture-23-only z = by (subst (PictureGiven d table bits src places) z (picture-given d table bits src places))
    where
      by : PictureGiven d table bits src places 23 → (could_be_read d table ≡ true) × (length src % 3 ≡ 0) × (length src ≤ places) × SomeAboveRaw bits src
      by (given-23 could depths k whole room at inside above) =
          (could, whole, room, record { depths = depths; known = k; place = at; inside = inside; above = above })

-- ---- the codes

-- the colour at a place of a pixel
colour-at : (j : ℕ) → j < 3 → (c : Colour) × (colour_place c ≡ j)
colour-at zero h = (Red, refl)
colour-at (suc zero) h = (Green, refl)
colour-at (suc (suc zero)) h = (Blue, refl)
colour-at (suc (suc (suc j))) h = absurd (omega arith)

-- of a picture that is right every code is at most the corrected M
pub right-picture-most : {d : Description} {table : List ℤ} {bits : Bits} {depths : Depths} {src dst dst' : List ℕ} → depths_of bits ≡ Some depths
    → RightPicture d table bits src dst dst' → (k : ℕ) → k < length src → get_or dst' k 0 ≤ corrected_m depths
right-picture-most {bits = bits} {depths} {src} {dst} {dst'} known q k inside =
    let (c, place) = colour-at (k % 3) (omega arith) in
    let p = q.pixels (k / 3) (omega arith) in
    let at : 3 * (k / 3) + colour_place c ≡ k = omega arith in
    let most : get_or dst' (3 * (k / 3) + colour_place c) 0 ≤ corrected_m q.depths = subst (λ x. x ≤ corrected_m q.depths) (sym (p.written c)) (p.all_right c).nearest.top in
    let here : get_or dst' k 0 ≤ corrected_m q.depths = subst (λ x. get_or dst' x 0 ≤ corrected_m q.depths) at most in
    subst (λ x. get_or dst' k 0 ≤ corrected_m x) (depths-one bits q.depths depths q.known known) here

-- so of every accepted picture
pub pictures-most : {d : Description} {table : List ℤ} {bits : Bits} {depths : Depths} {src dst dst' : List ℕ} → depths_of bits ≡ Some depths
    → Pictures d table bits src dst (Ok tt) dst' → (k : ℕ) → k < length src → get_or dst' k 0 ≤ corrected_m depths
pictures-most known p = right-picture-most known (pictures-right p)
