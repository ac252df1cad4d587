-- No look changed when document 02, Req 09, parted it, and so no picture.
use mathlib.Core.Path.{◌≡◌, refl, ap, ◌∙◌}
use mathlib.Core.Bool.{Bool, true, false, cond}
use mathlib.Core.List.{List}
use Prim.Native.Nat.{ℕ}
use lib.IntN.{ℤ}
use Rattle.rules.specs.Units.{depths_of, raw_m, corrected_m}
use Rattle.rules.specs.Descriptions.{could_be_read}
use Rattle.rules.specs.Looking.Interpolation.{den_of, code_by}
use Rattle.rules.specs.Looking.{within, shown, rows_with, code_of, correct, look_by, look_at, look}
use Rattle.rules.specs.Picturing.{each_pixel, corrected}
use Rattle.rules.specs.Answers.{codes_in}
use Rattle.rules.specs.Promises.{Looks}
use Rattle.rules.specs.declared.Bits.{Bits}
use Rattle.rules.specs.declared.Codes.{Codes}
use Rattle.rules.specs.declared.Colour.{Colour}
use Rattle.rules.specs.declared.Colour.TheVariants.{Red, Green, Blue}
use Rattle.rules.specs.declared.Depths.{Depths}
use Rattle.rules.specs.declared.Description.{Description}
use Rattle.rules.specs.declared.Refusal.TheVariants.{CodeTooGreat, CouldNotBeRead}
use Rattle.rules.specs.declared.Shares.{Shares}
use Rattle.rules.proofs.Answers.{looks-is}
use Rattle.rules.proofs.Looking.Demand3.{used-shown}
use Rattle.signature.specs.Undivided.{code_undivided, correct_undivided, look_undivided_at, look_undivided}
use Rattle.std.specs.Prelude.{Err, None, Ok, Option, Some}
use Rattle.rules.specs.Results.{Look, look_of}

-- ---- past 20, as one step and not as its two halves

pub look-undivided : (d : Description) (table : List ℤ) (depths : Depths) (pixel : Codes) → let m = raw_m depths in
    look_at d table pixel (Some depths) ≡ cond (within m pixel) (look_of (correct d table depths pixel) (shown d m pixel d.kind)) (Err CodeTooGreat)
unfolding look_at rows_with
look-undivided d table depths pixel = by (within (raw_m depths) pixel)
  where
    shares : Shares
    shares = shown d (raw_m depths) pixel d.kind

    by : (b : Bool) → look_by d table depths (cond b (Ok shares) (Err CodeTooGreat)) ≡ cond b (look_of (correct d table depths pixel) shares) (Err CodeTooGreat)
    by true = refl
    by false = refl

-- ---- and as it was

-- the codes of what is shown are those of the rule's rows and weights
correct-undivided : (d : Description) (table : List ℤ) (depths : Depths) (pixel : Codes) → correct d table depths pixel ≡ correct_undivided d table depths pixel
correct-undivided d table depths pixel i = record { red = each Red i; green = each Green i; blue = each Blue i }
  where
    m : ℕ
    m = raw_m depths

    each : (c : Colour) → code_of d table depths (shown d m pixel d.kind) c ≡ code_undivided d table depths pixel c
    each c = ap (code_by (corrected_m depths) (den_of d m c) table c) (used-shown d m pixel d.kind c)

-- for all input
pub look-as-before : (d : Description) (table : List ℤ) (bits : Bits) (pixel : Codes) → look d table bits pixel ≡ look_undivided d table bits pixel
unfolding look look_at look_undivided
look-as-before d table bits pixel = ap (λ x. cond (could_be_read d table) x (Err CouldNotBeRead)) (by (depths_of bits))
  where
    by : (x : Option Depths) → look_at d table pixel x ≡ look_undivided_at d table pixel x
    by None = refl
    by (Some depths) =
        look-undivided d table depths pixel
        ∙ ap (λ codes. cond (within (raw_m depths) pixel) (look_of codes (shown d (raw_m depths) pixel d.kind)) (Err CodeTooGreat)) (correct-undivided d table depths pixel)

-- of every call that keeps the promise of look
pub looks-as-before : {d : Description} {table : List ℤ} {bits : Bits} {pixel : Codes} {r : Look} → Looks d table bits pixel r → r ≡ look_undivided d table bits pixel
looks-as-before {d} {table} {bits} {pixel} l = looks-is l ∙ look-as-before d table bits pixel

-- and of a picture, pixel by pixel; its numbers do not come from look
pub corrected-as-before : (d : Description) (table : List ℤ) (bits : Bits) (src : List ℕ)
    → corrected d table bits src ≡ each_pixel (λ pixel. codes_in (look_undivided d table bits pixel)) src
corrected-as-before d table bits src i = each_pixel (λ pixel. codes_in (look-as-before d table bits pixel i)) src
