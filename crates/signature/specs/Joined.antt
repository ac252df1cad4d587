-- Document 02, Req 09: the two halves of a look, one after the other.
use Rattle.std.specs.Prelude.{List, ℤ, Err, Ok}
use Rattle.rules.specs.Looking.{first_half, second_half}
use Rattle.rules.specs.declared.Bits.{Bits}
use Rattle.rules.specs.declared.Codes.{Codes}
use Rattle.rules.specs.declared.Description.{Description}
use Rattle.rules.specs.declared.Shares.{Shares}
use Rattle.rules.specs.Results.{FirstHalf, Look, SecondHalf, look_of}

-- the second half's codes beside the rows and weights that they were made of, or its refusal
abbrev pub beside : Shares → SecondHalf → Look
beside shares (Ok codes) = look_of codes shares
beside shares (Err r) = Err r

-- the second half of the rows and weights that the first found, or the first's refusal
abbrev pub then_codes : FirstHalf → (Shares → SecondHalf) → Look
then_codes (Ok shares) second = beside shares (second shares)
then_codes (Err r) second = Err r

-- the first half at the raw depth, then the second at both
abbrev pub joined : Description → List ℤ → Bits → Codes → Look
joined d table bits pixel = then_codes (first_half d table bits.raw pixel) (second_half d table bits)
