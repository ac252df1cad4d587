use borrow.Author.Rules.{rules}
use Rattle.rules.specs.Reading.Numerals.{spell}
use Rattle.plain.proofs.Spelling.{four-digits}
use Rattle.plain.proofs.digits.four_spelt.Goals as goal

-- Digit by digit.
pub digit_value-requires : goal.digit_value-requires
digit_value-requires c = (four-digits _ _ _ _ c.requires).first

pub digit_value-requires-2 : goal.digit_value-requires-2
digit_value-requires-2 c = (four-digits _ _ _ _ c.before.requires).second

pub digit_value-requires-3 : goal.digit_value-requires-3
digit_value-requires-3 c = (four-digits _ _ _ _ c.before.before.requires).third

pub digit_value-requires-4 : goal.digit_value-requires-4
digit_value-requires-4 c = (four-digits _ _ _ _ c.before.before.before.requires).fourth

pub returns : goal.returns
unfolding spell
returns c = search rules
