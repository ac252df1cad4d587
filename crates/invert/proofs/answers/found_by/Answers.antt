-- By what is off.
use Rattle.invert.proofs.Saying.{found-hit, found-near}
use Rattle.invert.proofs.answers.found_by.Goals as goal

pub returns-then-off-eq0 : goal.returns-then-off-eq0
returns-then-off-eq0 c = found-hit _ _ _ _ c.apart-off.ensures c.if-off-eq0.true

pub returns : goal.returns
returns c = found-near _ _ _ _ c.apart-off.ensures c.if-off-eq0.false
