-- Document 01, "Answers by number": picture, a run of pixels to corrected codes.
use Rattle.std.specs.Prelude.{ℕ, ◌%◌, cond, List, [], ◌∷◌, ◌++◌, eqb, leb, ℤ, length, drop, Err, None, Ok, Option, Some}
use Rattle.rules.specs.Units.{depths_of, raw_m}
use Rattle.rules.specs.Descriptions.{could_be_read}
use Rattle.rules.specs.Reading.Lines.{every}
use Rattle.rules.specs.Looking.{look}
use Rattle.rules.specs.Answers.{codes_of, codes_in}
use Rattle.rules.specs.declared.Codes.{Codes}
use Rattle.rules.specs.declared.Bits.{Bits}
use Rattle.rules.specs.declared.Description.{Description}
use Rattle.rules.specs.declared.Refusal.TheVariants.{DepthUnknown, PictureNotPixels, OutputTooShort, CodeTooGreat, CouldNotBeRead}
use Rattle.rules.specs.declared.Depths.{Depths}
use Rattle.rules.specs.Results.{Picture}

abbrev pub pixel_of : ℕ → ℕ → ℕ → Codes
pixel_of r g b = record { red = r; green = g; blue = b }

-- what a function makes of a run of pixels, one after another; codes that are no whole pixel give none
unfoldable pub each_pixel : (Codes → Codes) → List ℕ → List ℕ
each_pixel f [] = []
each_pixel f (r ∷ []) = []
each_pixel f (r ∷ g ∷ []) = []
each_pixel f (r ∷ g ∷ b ∷ rest) = codes_of (f (pixel_of r g b)) ++ each_pixel f rest

-- the codes of look, pixel by pixel
abbrev pub corrected : Description → List ℤ → Bits → List ℕ → List ℕ
corrected d table bits src = each_pixel (λ pixel. codes_in (look d table bits pixel)) src

-- 21, 22, 23 at a known raw depth with greatest code m, of a picture and the places of the output
unfoldable pub picture_with : ℕ → List ℕ → ℕ → Picture
picture_with m src places =
    cond (eqb (length src % 3) 0)
    (cond (leb (length src) places)
    (cond (every (λ c. leb c m) src) (Ok tt)
    (Err CodeTooGreat))
    (Err OutputTooShort))
    (Err PictureNotPixels)

abbrev pub picture_at : Option Depths → List ℕ → ℕ → Picture
picture_at None src places = Err DepthUnknown
picture_at (Some depths) src places = picture_with (raw_m depths) src places

-- the checks run 24, 20, 21, 22, 23
unfoldable pub picture : Description → List ℤ → Bits → List ℕ → ℕ → Picture
picture d table bits src places = cond (could_be_read d table) (picture_at (depths_of bits) src places) (Err CouldNotBeRead)

-- the output afterwards: as many codes as the picture has, later places as they were; after a refusal as it was
unfoldable pub output_after : Description → List ℤ → Bits → List ℕ → List ℕ → Picture → List ℕ
output_after d table bits src dst (Ok _) = corrected d table bits src ++ drop (length src) dst
output_after d table bits src dst (Err r) = dst
