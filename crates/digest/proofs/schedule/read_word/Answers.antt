use Rattle.digest.specs.Sha256.{word_at}
use Rattle.digest.proofs.schedule.read_word.Goals as goal

pub returns : goal.returns
unfolding word_at
returns c = cc
