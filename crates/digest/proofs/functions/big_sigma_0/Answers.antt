use Rattle.digest.specs.Sha256.{Σ₀}
use Rattle.digest.proofs.functions.big_sigma_0.Goals as goal

pub returns : goal.returns
unfolding Σ₀
returns c = cc
