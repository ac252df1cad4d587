use Rattle.rules.specs.Decimals.{signed_decimal}
use Rattle.lettering.proofs.Pens.{adds-both, room-after}
use Rattle.lettering.proofs.Texts.{first-room}
use Rattle.lettering.proofs.Pen.put_signed.Goals as goal

-- The sign, and the digits after it.
pub put_sign-requires : goal.put_sign-requires
unfolding signed_decimal
put_sign-requires c = first-room _ _ c.requires

pub put_decimal-requires : goal.put_decimal-requires
unfolding signed_decimal
put_decimal-requires c = rw c.size.ensures (room-after _ c.put_sign.ensures c.requires)

pub returns : goal.returns
unfolding signed_decimal
returns c = adds-both c.put_sign.ensures (rw c.size.ensures at c.put_decimal.ensures)
