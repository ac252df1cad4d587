-- The answers of look by their cases, in the order of the checks; and back: what has passed them all.
use mathlib.Core.Path.{◌≡◌, refl, sym, ap, ◌∙◌}
use mathlib.Core.Bool.{Bool, true, false}
use mathlib.Core.List.{List}
use lib.IntN.{ℤ}
use Rattle.rules.specs.Units.{depths_of, raw_m}
use Rattle.rules.specs.Descriptions.{could_be_read}
use Rattle.rules.specs.Looking.{within, shown, rows_with, correct, look_by, look_at, look}
use Rattle.rules.specs.Answers.{look_number}
use Rattle.rules.specs.declared.Bits.{Bits}
use Rattle.rules.specs.declared.Codes.{Codes}
use Rattle.rules.specs.declared.Depths.{Depths}
use Rattle.rules.specs.declared.Description.{Description}
use Rattle.rules.specs.declared.Refusal.{Refusal}
use Rattle.rules.specs.declared.Refusal.TheVariants.{DepthUnknown, CodeTooGreat, CouldNotBeRead}
use Rattle.rules.proofs.Answers.{refused-not-0}
use Rattle.rules.proofs.Looking.Halves.{rows-23, rows-0}
use Rattle.std.specs.Prelude.{Err, None, Option, Some}
use Rattle.rules.specs.Results.{look_of}

module _ (d : Description) (table : List ℤ) (bits : Bits) (pixel : Codes) where
  pub look-24 : could_be_read d table ≡ false → look d table bits pixel ≡ Err CouldNotBeRead
  unfolding look
  look-24 e = rw e

  passed-24 : could_be_read d table ≡ true → look d table bits pixel ≡ look_at d table pixel (depths_of bits)
  unfolding look
  passed-24 e = rw e

  pub look-20 : could_be_read d table ≡ true → depths_of bits ≡ None → look d table bits pixel ≡ Err DepthUnknown
  unfolding look_at
  look-20 e u = passed-24 e ∙ ap (look_at d table pixel) u

  module _ (depths : Depths) (e : could_be_read d table ≡ true) (k : depths_of bits ≡ Some depths) where
    -- past 20 it joins the halves
    pub look-joins : look d table bits pixel ≡ look_by d table depths (rows_with d (raw_m depths) pixel)
    unfolding look_at
    look-joins = passed-24 e ∙ ap (look_at d table pixel) k

    pub look-23 : within (raw_m depths) pixel ≡ false → look d table bits pixel ≡ Err CodeTooGreat
    look-23 w = look-joins ∙ ap (look_by d table depths) (rows-23 d (raw_m depths) pixel w)

    pub look-0 : within (raw_m depths) pixel ≡ true
        → look d table bits pixel ≡ look_of (correct d table depths pixel) (shown d (raw_m depths) pixel d.kind)
    look-0 w = look-joins ∙ ap (look_by d table depths) (rows-0 d (raw_m depths) pixel w)

-- what an accepted look has passed
pub record LookPassed (d : Description) (table : List ℤ) (bits : Bits) (pixel : Codes) : Type 0 where
  pub depths : Depths
  pub could : could_be_read d table ≡ true
  pub known : depths_of bits ≡ Some depths
  pub inside : within (raw_m depths) pixel ≡ true

module _ (d : Description) (table : List ℤ) (bits : Bits) (pixel : Codes) where
  pub look-passed : look_number (look d table bits pixel) ≡ 0 → LookPassed d table bits pixel
  look-passed z = by-24 (could_be_read d table) refl
    where
      not-refused : {r : Refusal} → look d table bits pixel ≡ Err r → ⊥
      not-refused {r} e = refused-not-0 r (sym (ap look_number e) ∙ z)

      by-23 : (depths : Depths) (b : Bool) → could_be_read d table ≡ true → depths_of bits ≡ Some depths → within (raw_m depths) pixel ≡ b → LookPassed d table bits pixel
      by-23 depths true e k w = record { depths = depths; could = e; known = k; inside = w }
      by-23 depths false e k w = absurd (not-refused (look-23 d table bits pixel depths e k w))

      by-20 : (x : Option Depths) → could_be_read d table ≡ true → depths_of bits ≡ x → LookPassed d table bits pixel
      by-20 None e u = absurd (not-refused (look-20 d table bits pixel e u))
      by-20 (Some depths) e k = by-23 depths (within (raw_m depths) pixel) e k refl

      by-24 : (b : Bool) → could_be_read d table ≡ b → LookPassed d table bits pixel
      by-24 true e = by-20 (depths_of bits) e refl
      by-24 false e = absurd (not-refused (look-24 d table bits pixel e))
