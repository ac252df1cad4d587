use Rattle.lettering.proofs.Pens.{adds-both}
use Rattle.writing.proofs.lines.put_n.Goals as goal

pub returns : goal.returns
returns c = adds-both c.put.ensures c.put_count.ensures
