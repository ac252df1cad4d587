use Rattle.ppm.proofs.Codes.{codes-length}
use Rattle.ppm.proofs.Putting.{none-put, one-put}
use Rattle.ppm.proofs.raster.codes_from.Goals as goal

pub loop-i-init : goal.loop-i-init
loop-i-init c =
    let a = c.args in
    none-put c.code_count.ensures (codes-length a.wide a.bytes.now) c.min-n.ensures

pub loop-i-preserved : goal.loop-i-preserved
loop-i-preserved c = one-put c.loop-i.invariant c.loop-i-test.true c.code_at.ensures
