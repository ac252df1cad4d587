-- What is said of a question: what an inverse answers, and what a look makes of the raw code in it.
use Rattle.std.specs.Prelude.{ℕ, cond, List, eqb, ℤ, Result, Err, Ok}
use Rattle.rules.specs.Units.{code_in}
use Rattle.rules.specs.Looking.{look}
use Rattle.rules.specs.Picturing.{pixel_of}
use Rattle.rules.specs.Inverting.{apart, inverse}
use Rattle.rules.specs.Answers.{codes_in}
use Rattle.rules.specs.declared.Aim.{Aim}
use Rattle.rules.specs.declared.Bits.{Bits}
use Rattle.rules.specs.declared.Colour.{Colour}
use Rattle.rules.specs.declared.Description.{Description}
use Rattle.rules.specs.declared.NotInverted.{NotInverted}
use Rattle.desk.specs.declared.outcomes.Outcome.{Outcome}
use Rattle.desk.specs.declared.outcomes.Outcome.TheVariants as O
use Rattle.invert.specs.declared.answers.Found.{Found}
use Rattle.invert.specs.declared.answers.Found.TheVariants.{Hit, Near}
use Rattle.invert.specs.declared.question.Question.{Question}
use Rattle.rules.specs.Results.{Inverse}

-- what a look makes of a raw code in one colour, of the pixel that has it in all three
unfoldable pub corrected_to : Description → List ℤ → Bits → Colour → ℕ → ℕ
corrected_to d table bits c code = code_in (codes_in (look d table bits (pixel_of code code code))) c

-- a raw code that was found, or why there is none
abbrev pub Said : Type 0
Said = Result Found NotInverted

-- a raw code that was found is a hit where nothing is off
unfoldable pub found_by : ℕ → ℕ → ℕ → ℕ → Found
found_by corrected wanted code count = cond (eqb (apart corrected wanted) 0) (Hit code count) (Near code corrected (apart corrected wanted) count)

-- an inverse, by what each raw code is corrected to
unfoldable pub said_by : (ℕ → ℕ) → ℕ → Inverse → Said
said_by corrected wanted (Ok x) = Ok (found_by (corrected x.code) wanted x.code x.count)
said_by corrected wanted (Err x) = Err x

-- what a question aims at: its wanted code is any number
abbrev pub aim_of : Question → Aim
aim_of q = record { colour = q.colour; wanted = q.wanted; tolerance = q.tolerance }

unfoldable pub said_of : Description → List ℤ → Question → Said
said_of d table q = said_by (corrected_to d table q.bits q.colour) q.wanted (inverse d table q.bits (aim_of q))

-- a raw code that was found is done with
unfoldable pub end_of : Said → Outcome
end_of (Ok found) = O.Done
end_of (Err none) = O.Refused
