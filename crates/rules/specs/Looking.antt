-- Document 01, "Answers by number" and "Interpolation": look, one pixel to three corrected codes with their rows and weights; and document 02, Req 09: the two halves
-- that it joins.
use Rattle.std.specs.Prelude.{ℕ, Bool, cond, ◌&&◌, List, [], ◌∷◌, ◌++◌, leb, ℤ, get_or, Err, None, Ok, Option, Some}
use Rattle.rules.specs.Units.{depth_of, depths_of, raw_m, corrected_m}
use Rattle.rules.specs.Descriptions.{rows, could_be_read}
use Rattle.rules.specs.Looking.Interpolation.{share, den_of, pair_at, pair, path, code_by}
use Rattle.rules.specs.Looking.Judging.{◌and_then◌, judged}
use Rattle.rules.specs.declared.Codes.{Codes}
use Rattle.rules.specs.declared.Colour.{Colour}
use Rattle.rules.specs.declared.Colour.TheVariants.{Red, Green, Blue}
use Rattle.rules.specs.declared.Bits.{Bits}
use Rattle.rules.specs.declared.Depths.{Depths}
use Rattle.rules.specs.declared.Description.{Description}
use Rattle.rules.specs.declared.Kind.{Kind}
use Rattle.rules.specs.declared.Kind.TheVariants.{OneD, ThreeD}
use Rattle.rules.specs.declared.Refusal.TheVariants.{DepthUnknown, CodeTooGreat, CouldNotBeRead, RowsOrWeightsWrong}
use Rattle.rules.specs.declared.Share.{Share}
use Rattle.rules.specs.declared.Shares.{Shares}
use Rattle.rules.specs.declared.Depth.{Depth}
use Rattle.rules.specs.declared.Misfit.TheVariants.{NegativeWeight, RowBeyond, WrongSum}
use Rattle.rules.specs.Results.{FirstHalf, Judged, Look, SecondHalf, look_of}
-- positions, paths, weights and codes; the other readings of a position; rows and weights judged
pub mod Interpolation
pub mod Readings
pub mod Judging

-- no code above M
unfoldable pub within : ℕ → Codes → Bool
within m pixel = leb pixel.red m && (leb pixel.green m && leb pixel.blue m)

-- ---- the six rows and weights

-- places that a kind does not use are zero
abbrev pub share_at : List Share → ℕ → Share
share_at ss k = get_or ss k (share 0 0)

abbrev pub six : List Share → Shares
six ss = record {
  first = share_at ss 0;
  second = share_at ss 1;
  third = share_at ss 2;
  fourth = share_at ss 3;
  fifth = share_at ss 4;
  sixth = share_at ss 5;
}

-- two rows and weights for each colour in 1D, four for the pixel in 3D
unfoldable pub shown : Description → ℕ → Codes → Kind → Shares
shown d m pixel OneD = six (pair d m pixel Red ++ (pair d m pixel Green ++ pair d m pixel Blue))
shown d m pixel ThreeD = six (path d m pixel)

-- of the six, those that a colour's code is made of
abbrev pub used : Kind → Colour → Shares → List Share
used OneD Red s = s.first ∷ s.second ∷ []
used OneD Green s = s.third ∷ s.fourth ∷ []
used OneD Blue s = s.fifth ∷ s.sixth ∷ []
used ThreeD c s = s.first ∷ s.second ∷ s.third ∷ s.fourth ∷ []

-- ---- the first half: from a pixel to rows and weights

-- at a known raw depth with greatest code m
unfoldable pub rows_with : Description → ℕ → Codes → FirstHalf
rows_with d m pixel = cond (within m pixel) (Ok (shown d m pixel d.kind)) (Err CodeTooGreat)

abbrev pub rows_at : Description → Codes → Option Depth → FirstHalf
rows_at d pixel None = Err DepthUnknown
rows_at d pixel (Some depth) = rows_with d depth.greatest pixel

-- the checks run 24, 20, 23
unfoldable pub first_half : Description → List ℤ → ℕ → Codes → FirstHalf
first_half d table raw pixel = cond (could_be_read d table) (rows_at d pixel (depth_of raw)) (Err CouldNotBeRead)

-- ---- the second half: from rows and weights to codes

-- the raw M gives what the weights add up to, the corrected M gives the codes
abbrev pub code_of : Description → List ℤ → Depths → Shares → Colour → ℕ
code_of d table depths shares c = code_by (corrected_m depths) (den_of d (raw_m depths) c) table c (used d.kind c shares)

abbrev pub codes_by : Description → List ℤ → Depths → Shares → Codes
codes_by d table depths shares = record {
  red = code_of d table depths shares Red;
  green = code_of d table depths shares Green;
  blue = code_of d table depths shares Blue;
}

-- a colour's rows and weights, at the M of raw codes
abbrev pub judged_for : Description → ℕ → Shares → Colour → Judged
judged_for d m shares c = judged (rows d) (den_of d m c) (used d.kind c shares)

-- each colour has its own in 1D, and in 3D all have the pixel's; the places that a kind does not use are not judged
unfoldable pub judged_all : Description → ℕ → Shares → Judged
judged_all d m shares = judged_for d m shares Red and_then judged_for d m shares Green and_then judged_for d m shares Blue

abbrev pub codes_if : Description → List ℤ → Depths → Shares → Judged → SecondHalf
codes_if d table depths shares (Ok _) = Ok (codes_by d table depths shares)
codes_if d table depths shares (Err RowBeyond) = Err RowsOrWeightsWrong
codes_if d table depths shares (Err NegativeWeight) = Err RowsOrWeightsWrong
codes_if d table depths shares (Err WrongSum) = Err RowsOrWeightsWrong

abbrev pub codes_at : Description → List ℤ → Shares → Option Depths → SecondHalf
codes_at d table shares None = Err DepthUnknown
codes_at d table shares (Some depths) = codes_if d table depths shares (judged_all d (raw_m depths) shares)

-- the checks run 24, 20, 26
unfoldable pub second_half : Description → List ℤ → Bits → Shares → SecondHalf
second_half d table bits shares = cond (could_be_read d table) (codes_at d table shares (depths_of bits)) (Err CouldNotBeRead)

-- ---- look: the codes of the rows and weights that the first half finds

-- 1D: one colour's code by itself, of its own raw code
abbrev pub line_code : Description → List ℤ → Depths → Colour → ℕ → ℕ
line_code d table depths c code = code_by (corrected_m depths) (den_of d (raw_m depths) c) table c (pair_at d (raw_m depths) c code)

abbrev pub correct : Description → List ℤ → Depths → Codes → Codes
correct d table depths pixel = codes_by d table depths (shown d (raw_m depths) pixel d.kind)

abbrev pub look_by : Description → List ℤ → Depths → FirstHalf → Look
look_by d table depths (Ok shares) = look_of (codes_by d table depths shares) shares
look_by d table depths (Err r) = Err r

unfoldable pub look_at : Description → List ℤ → Codes → Option Depths → Look
look_at d table pixel None = Err DepthUnknown
look_at d table pixel (Some depths) = look_by d table depths (rows_with d (raw_m depths) pixel)

-- the checks run 24, 20, 23
unfoldable pub look : Description → List ℤ → Bits → Codes → Look
look d table bits pixel = cond (could_be_read d table) (look_at d table pixel (depths_of bits)) (Err CouldNotBeRead)
