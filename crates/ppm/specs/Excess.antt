-- The first code that is too great, with its colour.
use Rattle.std.specs.Prelude.{ℕ, ◌%◌, cond, List, eqb, leb, ltb, length, get_or, Option, Some, None}
use Rattle.rules.specs.Reading.Lines.{run}
use Rattle.rules.specs.declared.Colour.{Colour}
use Rattle.rules.specs.declared.Colour.TheVariants.{Red, Green, Blue}
use Rattle.ppm.specs.declared.excess.Excess.{Excess}

-- codes stand in the order red, green, blue, pixel after pixel
unfoldable pub colour_at : ℕ → Colour
colour_at place = cond (eqb (place % 3) 0) Red (cond (eqb (place % 3) 1) Green Blue)

-- the code at a place, where there is one
unfoldable pub excess_at : List ℕ → ℕ → Option Excess
excess_at codes place = cond (ltb place (length codes)) (Some (record { colour = colour_at place; code = get_or codes place 0 })) None

-- how many codes stand before the first that is above m
abbrev pub within : ℕ → List ℕ → ℕ
within m codes = length (run (λ c. leb c m) codes)

-- the first code above m
abbrev pub first_above : ℕ → List ℕ → Option Excess
first_above m codes = excess_at codes (within m codes)
