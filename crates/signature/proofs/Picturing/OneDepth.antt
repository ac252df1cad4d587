-- Document 02, Req 06: with one width for both depths picture is document 01's, for all input: its answer and the output.
use Prim.Native.Nat.{ℕ}
use mathlib.Core.Path.{◌≡◌, refl, ap, ◌∙◌}
use mathlib.Core.Bool.{cond}
use mathlib.Core.List.{List, ◌++◌}
use lib.IntN.{ℤ}
use lib.ListN.{length, drop}
use Rattle.rules.specs.Units.{depth_of, together, same_bits}
use Rattle.rules.specs.Descriptions.{could_be_read}
use Rattle.rules.specs.Picturing.{each_pixel, picture_at, picture, output_after}
use Rattle.rules.specs.Answers.{codes_in}
use Rattle.rules.specs.Promises.{Pictures}
use Rattle.rules.specs.declared.Description.{Description}
use Rattle.rules.specs.declared.Refusal.TheVariants.{CouldNotBeRead}
use Rattle.rules.proofs.Answers.{pictures-is}
use Rattle.signature.specs.OneDepth.{picture_one_at, picture_one, output_one}
use Rattle.signature.proofs.Looking.OneDepth.{look-one}
use Rattle.std.specs.Prelude.{Err, None, Ok, Option, Some}
use Rattle.rules.specs.declared.Depth.{Depth}
use Rattle.rules.specs.Results.{Picture}

picture-one-at : (x : Option Depth) (src : List ℕ) (places : ℕ) → picture_at (together x x) src places ≡ picture_one_at x src places
unfolding picture_one_at
picture-one-at None src places = refl
picture-one-at (Some depth) src places = refl

pub picture-one : (d : Description) (table : List ℤ) (bits : ℕ) (src : List ℕ) (places : ℕ) → picture d table (same_bits bits) src places ≡ picture_one d table bits src places
unfolding picture picture_one
picture-one d table bits src places = ap (λ r. cond (could_be_read d table) r (Err CouldNotBeRead)) (picture-one-at (depth_of bits) src places)

-- look's codes are document 01's, pixel by pixel
pub output-one : (d : Description) (table : List ℤ) (bits : ℕ) (src dst : List ℕ) (r : Picture)
    → output_after d table (same_bits bits) src dst r ≡ output_one d table bits src dst r
unfolding output_after output_one
output-one d table bits src dst (Ok _) = λ i. each_pixel (λ pixel. codes_in (look-one d table bits pixel i)) src ++ drop (length src) dst
output-one d table bits src dst (Err r) = refl

-- the output after the answer
pub output-after-one : (d : Description) (table : List ℤ) (bits : ℕ) (src dst : List ℕ)
    → output_after d table (same_bits bits) src dst (picture d table (same_bits bits) src (length dst)) ≡ output_one d table bits src dst (picture_one d table bits src (length dst))
output-after-one d table bits src dst =
    let r = picture d table (same_bits bits) src (length dst) in
    output-one d table bits src dst r ∙ ap (output_one d table bits src dst) (picture-one d table bits src (length dst))

-- so every call that keeps picture's promise answers document 01's picture there, and leaves its output
pub pictures-one-depth : {d : Description} {table : List ℤ} {bits : ℕ} {src dst dst' : List ℕ} {r : Picture} → Pictures d table (same_bits bits) src dst r dst'
    → (r ≡ picture_one d table bits src (length dst)) × (dst' ≡ output_one d table bits src dst (picture_one d table bits src (length dst)))
pictures-one-depth {d} {table} {bits} {src} {dst} p =
    ((pictures-is p).0 ∙ picture-one d table bits src (length dst), p.memory ∙ output-after-one d table bits src dst)
