use Rattle.ppm.proofs.Codes.{bytes-length}
use Rattle.ppm.proofs.Putting.{none-put, one-put}
use Rattle.ppm.proofs.raster.bytes_from.Goals as goal

pub loop-i-init : goal.loop-i-init
loop-i-init c =
    let a = c.args in
    none-put c.byte_count.ensures (bytes-length a.wide a.codes.now) c.min-n.ensures

pub loop-i-preserved : goal.loop-i-preserved
loop-i-preserved c = one-put c.loop-i.invariant c.loop-i-test.true c.byte_at.ensures
