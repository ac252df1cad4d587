use Rattle.digest.specs.Sha256.{σ₀}
use Rattle.digest.proofs.functions.small_sigma_0.Goals as goal

pub returns : goal.returns
unfolding σ₀
returns c = cc
