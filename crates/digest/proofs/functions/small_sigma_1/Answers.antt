use Rattle.digest.specs.Sha256.{σ₁}
use Rattle.digest.proofs.functions.small_sigma_1.Goals as goal

pub returns : goal.returns
unfolding σ₁
returns c = cc
