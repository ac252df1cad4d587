use Rattle.placing.proofs.Grids.{some-n, parted-stands}
use Rattle.placing.proofs.grid.grid_of.Goals as goal

pub returns : goal.returns
returns c = parted-stands c.args.n c.args.row (some-n c.args.n c.requires.n_value) c.requires.row_bound
