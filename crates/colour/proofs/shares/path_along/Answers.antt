use native.Mathlib.Omega.{arith}
use Rattle.rules.specs.Looking.Interpolation.{rgb, rbg, grb, gbr, brg, bgr}
use Rattle.rules.proofs.Looking.Chart.{says-order}
use Rattle.colour.proofs.Orders.{in_order}
use Rattle.colour.proofs.shares.path_along.Goals as goal

-- Each case is a line of the wall chart: its two tests hold, so its order is the one of the fractions.
pub returns-then-fg-fb : goal.returns-then-fg-fb
returns-then-fg-fb c = in_order _ _ _ _ rgb _ (says-order _ rgb (omega arith, omega arith)) c.climbed.ensures

pub returns-then-fb-fg : goal.returns-then-fb-fg
returns-then-fb-fg c = in_order _ _ _ _ rbg _ (says-order _ rbg (omega arith, omega arith)) c.climbed-then-fb-fg.ensures

pub returns-then-fr-fb-2 : goal.returns-then-fr-fb-2
returns-then-fr-fb-2 c = in_order _ _ _ _ grb _ (says-order _ grb (omega arith, omega arith)) c.climbed-then-fr-fb-2.ensures

pub returns-then-fb-fr : goal.returns-then-fb-fr
returns-then-fb-fr c = in_order _ _ _ _ gbr _ (says-order _ gbr (omega arith, omega arith)) c.climbed-then-fb-fr.ensures

pub returns-then-fr-fg-2 : goal.returns-then-fr-fg-2
returns-then-fr-fg-2 c = in_order _ _ _ _ brg _ (says-order _ brg (omega arith, omega arith)) c.climbed-then-fr-fg-2.ensures

pub returns-then-fg-fr-2 : goal.returns-then-fg-fr-2
returns-then-fg-fr-2 c = in_order _ _ _ _ bgr _ (says-order _ bgr (omega arith, omega arith)) c.climbed-then-fg-fr-2.ensures
