use Rattle.lettering.proofs.Pens.{adds-both}
use Rattle.writing.proofs.lines.put_bounds.Goals as goal

pub returns : goal.returns
returns c = adds-both c.put.ensures (rw c.finer.ensures at c.put_row.ensures)
