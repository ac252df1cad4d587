use Rattle.rules.proofs.Answers.{reads-is}
use Rattle.reporting.proofs.Answered.{too_long, short-enough}
use Rattle.reporting.proofs.answer_to.Goals as goal

-- Longer input is refused at once; else the answer is reading's.
pub returns-then-input-gt-MOST_BYTES : goal.returns-then-input-gt-MOST_BYTES
returns-then-input-gt-MOST_BYTES c = too_long _ c.if-input-gt-MOST_BYTES.true

pub returns : goal.returns
returns c = short-enough _ c.if-input-gt-MOST_BYTES.false (reads-is c.read.ensures).0
