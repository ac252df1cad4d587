use Rattle.digest.specs.Sha256.{Σ₁}
use Rattle.digest.proofs.functions.big_sigma_1.Goals as goal

pub returns : goal.returns
unfolding Σ₁
returns c = cc
