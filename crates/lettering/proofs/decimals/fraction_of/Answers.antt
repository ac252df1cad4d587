use Rattle.lettering.proofs.LastDigits.{shorter, shortest}
use Rattle.lettering.proofs.decimals.fraction_of.Goals as goal

pub loop-digits-preserved : goal.loop-digits-preserved
loop-digits-preserved c = shorter c.loop-digits.invariant c.loop-digits-test.true

pub returns : goal.returns
returns c = shortest c.loop-digits.invariant c.loop-digits-test.false
