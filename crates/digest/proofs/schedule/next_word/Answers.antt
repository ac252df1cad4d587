use Rattle.digest.specs.Sha256.{scheduled}
use Rattle.digest.proofs.schedule.next_word.Goals as goal

pub returns : goal.returns
unfolding scheduled
returns c = cc
