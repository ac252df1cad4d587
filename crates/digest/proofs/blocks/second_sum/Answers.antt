use Rattle.digest.specs.Sha256.{T₂}
use Rattle.digest.proofs.blocks.second_sum.Goals as goal

pub returns : goal.returns
unfolding T₂
returns c = cc
