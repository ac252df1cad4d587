use Rattle.colour.proofs.Weighing.{sum-code}
use Rattle.colour.proofs.codes.pair_code.Goals as goal

pub returns : goal.returns
returns c = λ m f. sum-code c.pair_sum.ensures f (c.code_of.ensures m f)
