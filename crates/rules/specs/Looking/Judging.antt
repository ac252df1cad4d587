-- Document 02, Req 09, number 26: rows and weights that anybody may have written.
use Rattle.std.specs.Prelude.{ℕ, cond, List, [], ◌∷◌, ltb, ℤ, pos, ◌+ℤ◌, Err, Ok}
use Rattle.std.specs.Int.Signed.{lt_z}
use Rattle.rules.specs.Descriptions.{same}
use Rattle.rules.specs.declared.Share.{Share}
use Rattle.rules.specs.declared.Misfit.TheVariants.{NegativeWeight, RowBeyond, WrongSum}
use Rattle.rules.specs.Results.{Judged}

-- what is found first
infixr 40 ◌and_then◌
abbrev pub ◌and_then◌ : Judged → Judged → Judged
(Ok _) and_then next = next
(Err RowBeyond) and_then next = Err RowBeyond
(Err NegativeWeight) and_then next = Err NegativeWeight
(Err WrongSum) and_then next = Err WrongSum

-- a row number is below the count of rows, also where its weight is 0; no weight is negative
unfoldable pub share_judged : ℕ → Share → Judged
share_judged count s = cond (ltb s.row count) (cond (lt_z s.weight (pos 0)) (Err NegativeWeight) (Ok tt)) (Err RowBeyond)

unfoldable pub each_judged : ℕ → List Share → Judged
each_judged count [] = Ok tt
each_judged count (s ∷ ss) = share_judged count s and_then each_judged count ss

abbrev pub sum_of : List Share → ℤ
sum_of [] = pos 0
sum_of (s ∷ ss) = s.weight +ℤ sum_of ss

-- the weights add up to D
unfoldable pub sum_judged : ℕ → List Share → Judged
sum_judged den ss = cond (same (sum_of ss) (pos den)) (Ok tt) (Err WrongSum)

-- rows and weights whose denominator is den, of a table with so many rows
abbrev pub judged : ℕ → ℕ → List Share → Judged
judged count den ss = each_judged count ss and_then sum_judged den ss
