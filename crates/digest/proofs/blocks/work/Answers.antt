use Rattle.digest.specs.Sha256.{worked}
use Rattle.digest.proofs.blocks.work.Goals as goal

pub returns : goal.returns
unfolding worked
returns c = cc
