use Rattle.digest.specs.Sha256.{added}
use Rattle.digest.proofs.blocks.add_words.Goals as goal

pub returns : goal.returns
unfolding added
returns c = cc
