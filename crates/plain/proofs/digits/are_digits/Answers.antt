use Rattle.plain.proofs.Spelling.{four-tests}
use Rattle.plain.proofs.digits.are_digits.Goals as goal

pub returns : goal.returns
returns c =
    four-tests _ _ _ _ c.before.before.before.is_digit.ensures c.before.before.is_digit-2.ensures c.before.is_digit-3.ensures c.is_digit-4.ensures
