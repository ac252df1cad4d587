use Rattle.rules.specs.Decimals.{decimal}
use Rattle.rules.specs.Fields.{parted}
use Rattle.lettering.proofs.Pens.{adds-both, adds-field, room-next-field, room-last-field}
use Rattle.reporting.proofs.put_counts.Goals as goal

pub put_count-requires : goal.put_count-requires
unfolding parted
put_count-requires c = room-next-field (decimal c.args.first) 9 _ c.put.ensures c.requires

pub put_count-requires-2 : goal.put_count-requires-2
unfolding parted
put_count-requires-2 c = room-last-field (decimal c.args.first) 9 _ c.put_count.ensures c.put.ensures c.requires

pub returns : goal.returns
unfolding parted
returns c = adds-both c.put.ensures (adds-field (decimal c.args.first) 9 _ c.put_count.ensures c.put_count-2.ensures)
