use Rattle.std.proofs.Common.{refl}
use Rattle.digest.specs.Sha256.{worked_in}
use Rattle.digest.proofs.Hashes.{work-turn}
use Rattle.digest.proofs.blocks.work_in.Goals as goal

pub loop-t-init : goal.loop-t-init
unfolding worked_in
loop-t-init c = refl

pub loop-t-preserved : goal.loop-t-preserved
loop-t-preserved c = work-turn _ _ _ c.loop-t.invariant c.constant_at.ensures c.work-worked.ensures
