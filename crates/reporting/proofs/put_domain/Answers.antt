use Rattle.rules.specs.Decimals.{signed_decimal}
use Rattle.rules.specs.Fields.{parted}
use Rattle.lettering.proofs.Pens.{adds-both, adds-field, room-next-field, room-last-field}
use Rattle.reporting.proofs.put_domain.Goals as goal

pub put_bound-requires : goal.put_bound-requires
unfolding parted
put_bound-requires c = room-next-field (signed_decimal c.args.domain.lower.0) 9 _ c.put.ensures c.requires

pub put_bound-requires-2 : goal.put_bound-requires-2
unfolding parted
put_bound-requires-2 c = room-last-field (signed_decimal c.args.domain.lower.0) 9 _ c.put_bound.ensures c.put.ensures c.requires

pub returns : goal.returns
unfolding parted
returns c = adds-both c.put.ensures (adds-field (signed_decimal c.args.domain.lower.0) 9 _ c.put_bound.ensures c.put_bound-2.ensures)
