-- What the calls answer, and what words and lines give, in the types of the code: what was asked for, or why there is none.
use Rattle.std.specs.Prelude.{ℕ, ℤ, Result, Ok, Err}
use Rattle.rules.specs.declared.Codes.{Codes}
use Rattle.rules.specs.declared.Description.{Description}
use Rattle.rules.specs.declared.Inverted.{Inverted}
use Rattle.rules.specs.declared.Item.{Item}
use Rattle.rules.specs.declared.Looked.{Looked}
use Rattle.rules.specs.declared.Misfit.{Misfit}
use Rattle.rules.specs.declared.NotInverted.{NotInverted}
use Rattle.rules.specs.declared.NumberFault.{NumberFault}
use Rattle.rules.specs.declared.Refusal.{Refusal}
use Rattle.rules.specs.declared.Refused.{Refused}
use Rattle.rules.specs.declared.Shares.{Shares}

-- ---- reading and check: a description, or a refusal and its line

abbrev pub Read : Type 0
Read = Result Description Refused

abbrev pub refused_on : Refusal → ℕ → Read
refused_on reason line = Err (record { reason = reason; line = line })

-- ---- look: codes with their rows and weights; and its halves

abbrev pub Look : Type 0
Look = Result Looked Refusal

abbrev pub look_of : Codes → Shares → Look
look_of codes shares = Ok (record { codes = codes; shares = shares })

abbrev pub FirstHalf : Type 0
FirstHalf = Result Shares Refusal

abbrev pub SecondHalf : Type 0
SecondHalf = Result Codes Refusal

-- ---- picture, whose codes stand in lent memory; and writing, which answers the text's length

abbrev pub Picture : Type 0
Picture = Result (Unit {0}) Refusal

abbrev pub Write : Type 0
Write = Result ℕ Refusal

-- ---- the inverse: a raw code, or a refusal, with the count of codes tried

abbrev pub Inverse : Type 0
Inverse = Result Inverted NotInverted

abbrev pub inverse_of : ℕ → ℕ → Inverse
inverse_of code count = Ok (record { code = code; count = count })

abbrev pub no_inverse : Refusal → ℕ → Inverse
no_inverse reason count = Err (record { reason = reason; count = count })

-- ---- what a word says as a number, what a line says by itself, and what rows and weights are found to be

abbrev pub Number : Type 0
Number = Result ℤ NumberFault

abbrev pub Content : Type 0
Content = Result Item Refusal

abbrev pub Judged : Type 0
Judged = Result (Unit {0}) Misfit
