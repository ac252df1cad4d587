use Rattle.digest.specs.Sha256.{T₁}
use Rattle.digest.proofs.blocks.first_sum.Goals as goal

pub returns : goal.returns
unfolding T₁
returns c = cc
