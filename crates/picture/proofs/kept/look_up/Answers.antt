use Rattle.picture.proofs.Filled.{none_filled, one-filled, all-filled}
use Rattle.picture.proofs.kept.look_up.Goals as goal

pub loop-i-init : goal.loop-i-init
loop-i-init c = none_filled _ _ _

pub loop-i-preserved : goal.loop-i-preserved
loop-i-preserved c = one-filled c.requires.fillable c.loop-i.invariant c.loop-i-test.true c.pixel_from-pixel.ensures c.kept_codes.ensures c.write_pixel.ensures

pub returns : goal.returns
returns c = all-filled c.requires.fillable c.loop-i.invariant c.loop-i-test.false
