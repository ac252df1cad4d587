use Rattle.std.proofs.Common.{refl, arith}
use Rattle.digest.specs.Sha256.{words_at}
use Rattle.digest.proofs.Schedules.{reading-turn}
use Rattle.digest.proofs.schedule.read_block.Goals as goal

pub loop-t-init : goal.loop-t-init
unfolding words_at
loop-t-init c = record { some = omega arith; size = refl; words = refl }

pub loop-t-preserved : goal.loop-t-preserved
loop-t-preserved c = reading-turn c.loop-t-test.true c.loop-t.invariant c.read_word.ensures
