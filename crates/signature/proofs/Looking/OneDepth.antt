-- Document 02, Req 06: with one width for both depths look is document 01's, for all input: M falls out of the division, and nothing else knew a second depth.
use Prim.Native.Nat.{ℕ, ◌*◌, ◌<◌}
use mathlib.Core.Path.{◌≡◌, refl, ap, ◌∙◌}
use mathlib.Core.Bool.{cond}
use mathlib.Core.List.{List}
use lib.IntN.{ℤ}
use Rattle.whole.specs.Nearest.{code}
use Rattle.rules.specs.Units.{sample_one, depth_of, together, same_bits, same_depth}
use Rattle.rules.specs.Descriptions.{span, could_be_read}
use Rattle.rules.specs.Looking.Interpolation.{total}
use Rattle.rules.specs.Looking.{within, shown, used, code_of, correct, look_at, look}
use Rattle.rules.specs.Promises.{Looks}
use Rattle.rules.specs.declared.Codes.{Codes}
use Rattle.rules.specs.declared.Colour.{Colour}
use Rattle.rules.specs.declared.Colour.TheVariants.{Red, Green, Blue}
use Rattle.rules.specs.declared.Depth.{Depth}
use Rattle.rules.specs.declared.Description.{Description}
use Rattle.rules.specs.declared.Refusal.TheVariants.{CodeTooGreat, CouldNotBeRead}
use Rattle.rules.proofs.KnownDepths.{depth-bounds}
use Rattle.rules.proofs.Answers.{looks-is}
use Rattle.rules.proofs.Looking.Demand3.{used-shown}
use Rattle.signature.specs.OneDepth.{code_one, correct_one, look_one_at, look_one}
use Rattle.signature.proofs.Looking.Undivided.{look-undivided}
use Rattle.signature.proofs.Looking.ShortDivision.{short-division}
use Rattle.std.specs.Prelude.{Err, None, Option, Some}
use Rattle.rules.specs.Results.{Look, look_of}

-- ---- the codes

module _ (d : Description) (table : List ℤ) (depth : Depth) (pixel : Codes) (deep : 0 < depth.greatest) where
  abbrev m : ℕ
  m = depth.greatest

  code-one : (c : Colour) → code_of d table (same_depth depth) (shown d m pixel d.kind) c ≡ code_one d table m pixel c
  code-one c =
      short-division table m (span d c) c (used d.kind c (shown d m pixel d.kind)) deep
      ∙ ap (λ ss. code (total table c ss) (span d c * sample_one) m) (used-shown d m pixel d.kind c)

  correct-one : correct d table (same_depth depth) pixel ≡ correct_one d table m pixel
  correct-one i = record { red = code-one Red i; green = code-one Green i; blue = code-one Blue i }

-- ---- the answer

look-one-at : (d : Description) (table : List ℤ) (bits : ℕ) (pixel : Codes) (x : Option Depth) → depth_of bits ≡ x
    → look_at d table pixel (together x x) ≡ look_one_at d table pixel x
unfolding look_at look_one_at
look-one-at d table bits pixel None e = refl
look-one-at d table bits pixel (Some depth) e =
    let m = depth.greatest in
    look-undivided d table (same_depth depth) pixel
    ∙ ap (λ codes. cond (within m pixel) (look_of codes (shown d m pixel d.kind)) (Err CodeTooGreat))
    (correct-one d table depth pixel (depth-bounds bits depth e).0)

pub look-one : (d : Description) (table : List ℤ) (bits : ℕ) (pixel : Codes) → look d table (same_bits bits) pixel ≡ look_one d table bits pixel
unfolding look look_one
look-one d table bits pixel = ap (λ r. cond (could_be_read d table) r (Err CouldNotBeRead)) (look-one-at d table bits pixel (depth_of bits) refl)

-- so every call that keeps look's promise answers document 01's look there
pub looks-one-depth : {d : Description} {table : List ℤ} {bits : ℕ} {pixel : Codes} {r : Look} → Looks d table (same_bits bits) pixel r → r ≡ look_one d table bits pixel
looks-one-depth {d} {table} {bits} {pixel} l = looks-is l ∙ look-one d table bits pixel
