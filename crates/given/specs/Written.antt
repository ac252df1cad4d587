-- A number as it is written: digits, and for a weight perhaps a minus before them.
use Rattle.std.specs.Prelude.{ℕ, suc, min, Bool, true, false, cond, List, [], ◌∷◌, eqb, ℤ, pos, negsuc, Option, Some, None, Result, Ok, Err}
use Rattle.rules.specs.Reading.Numerals.{signed}
use Rattle.rules.specs.Units.{row_limit}
use Rattle.rules.specs.declared.Share.{Share}
use Rattle.rules.specs.declared.Shares.{Shares}
use Rattle.colour.specs.Limits.{den_limit}
use Rattle.desk.specs.Arguments.{argument_of}
use Rattle.desk.specs.declared.arguments.Unfit.{Unfit}
use Rattle.desk.specs.declared.arguments.Unfit.TheVariants.{TooGreat, Unclear}

-- what digits say, up to a limit; past it every number counts as the next one
abbrev pub value_by : ℕ → Result ℕ Unfit → Option ℕ
value_by most (Ok n) = Some n
value_by most (Err TooGreat) = Some (suc most)
value_by most (Err Unclear) = None

-- the limit of a weight is the greatest D
abbrev pub weight_by : Bool → Result ℕ Unfit → Option ℤ
weight_by negative (Ok n) = Some (signed negative n)
weight_by negative (Err TooGreat) = Some (signed negative (suc den_limit))
weight_by negative (Err Unclear) = None

unfoldable pub weight_of : List ℕ → Option ℤ
weight_of [] = None
weight_of (b ∷ digits) = cond (eqb b 45) (weight_by true (argument_of den_limit digits)) (weight_by false (argument_of den_limit (b ∷ digits)))

-- ---- the rows and weights of a line, as they are read whatever was written

abbrev pub weight_read : ℤ → ℤ
weight_read (pos n) = pos (min n (suc den_limit))
weight_read (negsuc n) = negsuc (min n den_limit)

-- the largest table has row_limit rows, which are counted from 0
abbrev pub share_read : Share → Share
share_read s = record { row = min s.row row_limit; weight = weight_read s.weight }

abbrev pub shares_read : Shares → Shares
shares_read s = record {
  first = share_read s.first;
  second = share_read s.second;
  third = share_read s.third;
  fourth = share_read s.fourth;
  fifth = share_read s.fifth;
  sixth = share_read s.sixth;
}
