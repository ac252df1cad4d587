use Rattle.std.proofs.Common.{refl}
use Rattle.digest.specs.Sha256.{constants}
use Rattle.digest.proofs.constants.constant_at.Goals as goal

pub returns : goal.returns
unfolding constants
returns c = refl
