use Rattle.std.proofs.Common.{refl}
use Rattle.digest.specs.Sha256.{hashed}
use Rattle.digest.proofs.Hashes.{hash-turn}
use Rattle.digest.proofs.blocks.hash_blocks.Goals as goal

pub loop-i-init : goal.loop-i-init
unfolding hashed
loop-i-init c = refl

pub loop-i-preserved : goal.loop-i-preserved
loop-i-preserved c = hash-turn _ _ _ c.loop-i.invariant c.schedule_of-w.ensures c.work_in.ensures c.add_words-hash.ensures
