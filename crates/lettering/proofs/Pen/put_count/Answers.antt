use Rattle.lettering.proofs.Pens.{adds-both}
use Rattle.lettering.proofs.Pen.put_count.Goals as goal

pub returns : goal.returns
returns c = adds-both c.put_decimal.ensures c.put_byte.ensures
