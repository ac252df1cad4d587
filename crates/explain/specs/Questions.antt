-- What a question asks about, and how its answer ends.
use Rattle.std.specs.Prelude.{ℕ, cond, ◌&&◌, List, leb, ℤ, Option, Some, None, Err, Ok}
use Rattle.rules.specs.Looking.{first_half, second_half, look}
use Rattle.rules.specs.declared.Codes.{Codes}
use Rattle.rules.specs.declared.Description.{Description}
use Rattle.desk.specs.declared.outcomes.Outcome.{Outcome}
use Rattle.desk.specs.declared.outcomes.Outcome.TheVariants.{Done, Refused}
use Rattle.explain.specs.declared.question.Question.{Question}
use Rattle.explain.specs.declared.question.Question.TheVariants as Q
use Rattle.rules.specs.Results.{FirstHalf, Look, SecondHalf}

-- three codes that 16 bits hold, or one that they do not
abbrev pub pixel_asked : ℕ → ℕ → ℕ → Option Codes
pixel_asked red green blue =
    cond (leb red 65_535 && (leb green 65_535 && leb blue 65_535)) (Some (record { red = red; green = green; blue = blue })) None

-- a look that is accepted is done with
unfoldable pub looked_as : Look → Outcome
looked_as (Ok x) = Done
looked_as (Err r) = Refused

-- and so is a half of one: the first, whose rows and weights are kept, and the second, to which they are given
unfoldable pub kept_as : FirstHalf → Outcome
kept_as (Ok shares) = Done
kept_as (Err r) = Refused

unfoldable pub given_as : SecondHalf → Outcome
given_as (Ok codes) = Done
given_as (Err r) = Refused

-- a code that no depth has is refused
unfoldable pub held_as : (Codes → Outcome) → Option Codes → Outcome
held_as ends (Some raw) = ends raw
held_as ends None = Refused

unfoldable pub asked_as : Description → List ℤ → Question → Outcome
asked_as d table (Q.Pixel bits pixel) = held_as (λ raw. looked_as (look d table bits raw)) pixel
asked_as d table (Q.LineOf raw pixel) = held_as (λ codes. kept_as (first_half d table raw codes)) pixel
asked_as d table (Q.Line bits shares) = given_as (second_half d table bits shares)
