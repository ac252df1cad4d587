use Rattle.digest.proofs.Paddings.{one_block, two_blocks}
use Rattle.digest.proofs.padding.count_last_blocks.Goals as goal

-- One block has room for what is used, the 1 and the length, or two have.
pub returns-then-used-lt56 : goal.returns-then-used-lt56
returns-then-used-lt56 c = λ bits. one_block _ bits c.if-used-lt56.true

pub returns : goal.returns
returns c = λ bits. two_blocks _ bits c.if-used-lt56.false c.requires
