-- Look as it was before document 02, Req 09, parted it: the codes of the rule's own rows and weights, in one step. All else is the rules' own.
use Rattle.std.specs.Prelude.{ℕ, cond, List, ℤ, Err, None, Option, Some}
use Rattle.rules.specs.Units.{depths_of, raw_m, corrected_m}
use Rattle.rules.specs.Descriptions.{could_be_read}
use Rattle.rules.specs.Looking.Interpolation.{den_of, shares_for, code_by}
use Rattle.rules.specs.Looking.{within, shown}
use Rattle.rules.specs.declared.Bits.{Bits}
use Rattle.rules.specs.declared.Codes.{Codes}
use Rattle.rules.specs.declared.Colour.{Colour}
use Rattle.rules.specs.declared.Colour.TheVariants.{Red, Green, Blue}
use Rattle.rules.specs.declared.Depths.{Depths}
use Rattle.rules.specs.declared.Description.{Description}
use Rattle.rules.specs.declared.Refusal.TheVariants.{DepthUnknown, CodeTooGreat, CouldNotBeRead}
use Rattle.rules.specs.Results.{Look, look_of}

abbrev pub code_undivided : Description → List ℤ → Depths → Codes → Colour → ℕ
code_undivided d table depths pixel c = code_by (corrected_m depths) (den_of d (raw_m depths) c) table c (shares_for d (raw_m depths) pixel d.kind c)

abbrev pub correct_undivided : Description → List ℤ → Depths → Codes → Codes
correct_undivided d table depths pixel = record {
  red = code_undivided d table depths pixel Red;
  green = code_undivided d table depths pixel Green;
  blue = code_undivided d table depths pixel Blue;
}

abbrev pub look_undivided_at : Description → List ℤ → Codes → Option Depths → Look
look_undivided_at d table pixel None = Err DepthUnknown
look_undivided_at d table pixel (Some depths) =
    cond (within (raw_m depths) pixel) (look_of (correct_undivided d table depths pixel) (shown d (raw_m depths) pixel d.kind)) (Err CodeTooGreat)

unfoldable pub look_undivided : Description → List ℤ → Bits → Codes → Look
look_undivided d table bits pixel = cond (could_be_read d table) (look_undivided_at d table pixel (depths_of bits)) (Err CouldNotBeRead)
