use Rattle.lettering.proofs.Pens.{adds-both}
use Rattle.lettering.proofs.Pen.put_between.Goals as goal

pub returns : goal.returns
returns c = adds-both c.put.ensures (adds-both c.put-2.ensures c.put-3.ensures)
