-- Document 02, Req 07: of 1D tables, and of 3D tables with one domain, picture is what it was, for all input: its answer and the output. Every other 3D table was
-- refused with 24.
use Prim.Native.Nat.{ℕ}
use mathlib.Core.Path.{◌≡◌, refl, ap, ◌∙◌}
use mathlib.Core.Bool.{true, false, cond}
use mathlib.Core.List.{List, ◌++◌}
use lib.IntN.{ℤ}
use lib.ListN.{length, drop}
use Rattle.rules.specs.Units.{depths_of}
use Rattle.rules.specs.Descriptions.{every_colour, one_domain, whole_bounds}
use Rattle.rules.specs.Picturing.{each_pixel, picture_at, picture, output_after}
use Rattle.rules.specs.Answers.{codes_in}
use Rattle.rules.specs.Promises.{Pictures}
use Rattle.rules.specs.declared.Bits.{Bits}
use Rattle.rules.specs.declared.Description.{Description}
use Rattle.rules.specs.declared.Kind.TheVariants.{ThreeD}
use Rattle.rules.specs.declared.Refusal.TheVariants.{CouldNotBeRead}
use Rattle.rules.proofs.Answers.{pictures-is}
use Rattle.rules.proofs.Picturing.Checks.{picture-24}
use Rattle.signature.specs.OneDomain.{agree_before, picture_before, output_before}
use Rattle.signature.proofs.Looking.OneDomain.{same-24, look-one-domain, before-24}
use Rattle.signature.proofs.Looking.CommonFractions.{uneven-24}
use Rattle.std.specs.Prelude.{Err, Ok}
use Rattle.rules.specs.Results.{Picture}

module _ (d : Description) (table : List ℤ) (bits : Bits) where
  module _ (one : agree_before d.kind d ≡ true) where
    pub picture-one-domain : (src : List ℕ) (places : ℕ) → picture d table bits src places ≡ picture_before d table bits src places
    unfolding picture picture_before
    picture-one-domain src places = ap (λ could. cond could (picture_at (depths_of bits) src places) (Err CouldNotBeRead)) (same-24 d one table)

    -- look's codes are what they were, pixel by pixel
    output-one-domain : (src dst : List ℕ) (r : Picture) → output_after d table bits src dst r ≡ output_before d table bits src dst r
    unfolding output_after output_before
    output-one-domain src dst (Ok _) = λ i. each_pixel (λ pixel. codes_in (look-one-domain d one table bits pixel i)) src ++ drop (length src) dst
    output-one-domain src dst (Err r) = refl

    -- the output after the answer
    pub output-after-one-domain : (src dst : List ℕ)
        → output_after d table bits src dst (picture d table bits src (length dst)) ≡ output_before d table bits src dst (picture_before d table bits src (length dst))
    output-after-one-domain src dst =
        output-one-domain src dst (picture d table bits src (length dst)) ∙ ap (output_before d table bits src dst) (picture-one-domain src (length dst))

    -- so every call that keeps picture's promise answers as before, and leaves the output of before
    pub pictures-one-domain : {src dst dst' : List ℕ} {r : Picture} → Pictures d table bits src dst r dst'
        → (r ≡ picture_before d table bits src (length dst)) × (dst' ≡ output_before d table bits src dst (picture_before d table bits src (length dst)))
    pictures-one-domain {src} {dst} p = ((pictures-is p).0 ∙ picture-one-domain src (length dst), p.memory ∙ output-after-one-domain src dst)

  -- ---- 3D, and domains that differ

  -- before, 24
  pub picture-before-24 : agree_before d.kind d ≡ false → (src : List ℕ) (places : ℕ) → picture_before d table bits src places ≡ Err CouldNotBeRead
  unfolding picture_before
  picture-before-24 differ src places = ap (λ could. cond could (picture_at (depths_of bits) src places) (Err CouldNotBeRead)) (before-24 d table differ)

  -- and where a bound is not whole it is 24 still
  pub picture-uneven : d.kind ≡ ThreeD → one_domain d ≡ false → every_colour whole_bounds d ≡ false
      → (src : List ℕ) (places : ℕ) → picture d table bits src places ≡ Err CouldNotBeRead
  picture-uneven cube differ uneven src places = picture-24 d table bits src places (uneven-24 d cube differ uneven table)
