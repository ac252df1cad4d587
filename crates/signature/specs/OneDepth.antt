-- Document 01's look and picture, with one depth: raw and corrected codes have one M, and as a code the exact value is S / (w·10,000,000), with the span of the
-- colour for w. What does not stand here anew is that of the rules.
use Rattle.std.specs.Prelude.{ℕ, ◌*◌, cond, List, ◌++◌, ℤ, length, drop, Err, None, Ok, Option, Some}
use Rattle.whole.specs.Nearest.{code}
use Rattle.rules.specs.Units.{depth_of, sample_one}
use Rattle.rules.specs.Descriptions.{span, could_be_read}
use Rattle.rules.specs.Looking.Interpolation.{shares_for, total}
use Rattle.rules.specs.Looking.{within, shown}
use Rattle.rules.specs.Picturing.{each_pixel, picture_with}
use Rattle.rules.specs.Answers.{codes_in}
use Rattle.rules.specs.declared.Codes.{Codes}
use Rattle.rules.specs.declared.Colour.{Colour}
use Rattle.rules.specs.declared.Colour.TheVariants.{Red, Green, Blue}
use Rattle.rules.specs.declared.Description.{Description}
use Rattle.rules.specs.declared.Refusal.TheVariants.{DepthUnknown, CodeTooGreat, CouldNotBeRead}
use Rattle.rules.specs.declared.Depth.{Depth}
use Rattle.rules.specs.Results.{Look, Picture, look_of}

-- ---- look

-- the code of a colour is the nearest to S / (w·10,000,000) from 0 to M, w being its span
abbrev pub code_one : Description → List ℤ → ℕ → Codes → Colour → ℕ
code_one d table m pixel c = code (total table c (shares_for d m pixel d.kind c)) (span d c * sample_one) m

abbrev pub correct_one : Description → List ℤ → ℕ → Codes → Codes
correct_one d table m pixel = record {
  red = code_one d table m pixel Red;
  green = code_one d table m pixel Green;
  blue = code_one d table m pixel Blue;
}

unfoldable pub look_one_at : Description → List ℤ → Codes → Option Depth → Look
look_one_at d table pixel None = Err DepthUnknown
look_one_at d table pixel (Some depth) =
    let m = depth.greatest in
    cond (within m pixel) (look_of (correct_one d table m pixel) (shown d m pixel d.kind)) (Err CodeTooGreat)

unfoldable pub look_one : Description → List ℤ → ℕ → Codes → Look
look_one d table bits pixel = cond (could_be_read d table) (look_one_at d table pixel (depth_of bits)) (Err CouldNotBeRead)

-- ---- picture

unfoldable pub picture_one_at : Option Depth → List ℕ → ℕ → Picture
picture_one_at None src places = Err DepthUnknown
picture_one_at (Some depth) src places = picture_with depth.greatest src places

unfoldable pub picture_one : Description → List ℤ → ℕ → List ℕ → ℕ → Picture
picture_one d table bits src places = cond (could_be_read d table) (picture_one_at (depth_of bits) src places) (Err CouldNotBeRead)

unfoldable pub output_one : Description → List ℤ → ℕ → List ℕ → List ℕ → Picture → List ℕ
output_one d table bits src dst (Ok _) = each_pixel (λ pixel. codes_in (look_one d table bits pixel)) src ++ drop (length src) dst
output_one d table bits src dst (Err r) = dst
