use Rattle.std.proofs.Common.{arith, rules}
use Rattle.digest.specs.Sha256.{extended}
use Rattle.digest.proofs.Schedules.{extending-turn}
use Rattle.digest.proofs.schedule.schedule_of.Goals as goal

pub loop-t-init : goal.loop-t-init
unfolding extended
loop-t-init c = record { from = omega arith; until = omega arith; size = search rules; words = c.read_block-w.ensures }

pub loop-t-preserved : goal.loop-t-preserved
loop-t-preserved c = extending-turn c.loop-t-test.true c.loop-t.invariant c.next_word.ensures
