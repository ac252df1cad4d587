-- The three colours of a row and of a pixel, by their places.
use Prim.Native.Nat.{ℕ, ◌≤◌, ◌<◌}
use mathlib.Core.Path.{◌≡◌, refl}
use mathlib.Core.Bool.{true}
use native.Mathlib.Omega.{arith}
use borrow.Author.Tests.{le-leb}
use lib.Dec.{leb}
use lib.ListN.{get_or}
use Rattle.rules.specs.Units.{colour_place, code_in}
use Rattle.rules.specs.Looking.{within}
use Rattle.rules.specs.Picturing.{pixel_of}
use Rattle.rules.specs.Answers.{codes_of}
use Rattle.rules.specs.declared.Codes.{Codes}
use Rattle.rules.specs.declared.Colour.{Colour}
use Rattle.rules.specs.declared.Colour.TheVariants.{Red, Green, Blue}
use Rattle.rules.proofs.Tests.{both-and}

pub place-below : (c : Colour) → colour_place c < 3
place-below Red = omega arith
place-below Green = omega arith
place-below Blue = omega arith

-- the code of a colour is the one at its place
pub code-at-place : (codes : Codes) (c : Colour) → get_or (codes_of codes) (colour_place c) 0 ≡ code_in codes c
code-at-place codes Red = refl
code-at-place codes Green = refl
code-at-place codes Blue = refl

-- a grey pixel has one code in all three
abbrev pub grey : ℕ → Codes
grey code = pixel_of code code code

pub grey-code : (code : ℕ) (c : Colour) → code_in (grey code) c ≡ code
grey-code code Red = refl
grey-code code Green = refl
grey-code code Blue = refl

pub grey-within : (m code : ℕ) → code ≤ m → within m (grey code) ≡ true
unfolding within
grey-within m code h = let low = le-leb code m h in both-and (leb code m) _ low (both-and (leb code m) _ low low)
