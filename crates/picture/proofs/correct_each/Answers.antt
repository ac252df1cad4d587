use native.Mathlib.Omega.{arith}
use Rattle.picture.proofs.Filled.{whole-pixel, none_filled, room-here, one-filled, all-filled}
use Rattle.picture.proofs.correct_each.Goals as goal

pub loop-i-init : goal.loop-i-init
loop-i-init c = λ p. none_filled _ _ _

pub pixel_from-pixel-requires : goal.pixel_from-pixel-requires
pixel_from-pixel-requires c = whole-pixel c.requires.fillable c.loop-i.i (c.loop-i.invariant c.requires.planned).whole c.loop-i-test.true

pub write_pixel-requires : goal.write_pixel-requires
write_pixel-requires c = room-here c.requires.fillable (c.loop-i.invariant c.requires.planned) c.loop-i-test.true

pub loop-i-preserved : goal.loop-i-preserved
loop-i-preserved c =
    λ p. one-filled c.requires.fillable (c.loop-i.invariant p) c.loop-i-test.true c.pixel_from-pixel.ensures (c.correct.ensures p) c.write_pixel.ensures

pub returns : goal.returns
returns c = λ p. all-filled c.requires.fillable (c.loop-i.invariant p) c.loop-i-test.false

-- at the last pixel
pub returns-2 : goal.returns-2
returns-2 c =
    λ p. all-filled c.requires.fillable
    (one-filled c.requires.fillable (c.loop-i.invariant p) c.loop-i-test.true c.pixel_from-pixel.ensures (c.correct.ensures p) c.write_pixel.ensures)
    (omega arith)
