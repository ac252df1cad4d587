use Rattle.rules.specs.declared.Colour.TheVariants.{Red, Green, Blue}
use Rattle.colour.proofs.sums.with_row.Goals as goal

-- Each colour's number with that colour's sum.
pub with_number-requires : goal.with_number-requires
with_number-requires c = record { room = c.requires.room Red; row_at = c.requires.row_at }

pub with_number-requires-2 : goal.with_number-requires-2
with_number-requires-2 c = record { room = c.requires.room Green; row_at = c.requires.row_at }

pub with_number-requires-3 : goal.with_number-requires-3
with_number-requires-3 c = record { room = c.requires.room Blue; row_at = c.requires.row_at }
