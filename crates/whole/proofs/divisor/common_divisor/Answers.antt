use mathlib.Core.Path.{◌≡◌, sym, ap, ◌∙◌}
use native.Mathlib.Omega.{arith}
use Rattle.whole.specs.Divisors.{gcd}
use Rattle.whole.proofs.Divisors.{gcd-step, gcd-end}
use Rattle.whole.proofs.divisor.common_divisor.Goals as goal

pub loop-y-preserved : goal.loop-y-preserved
loop-y-preserved c = let l = c.before.loop-y in sym (gcd-step l.x l.y c.loop-y-test.true) ∙ l.invariant

pub returns : goal.returns
returns c =
    let l = c.before.loop-y in
    let none : l.y ≡ 0 = omega (arith, c.loop-y-test.false) in
    sym (gcd-end l.x) ∙ ap (gcd l.x) (sym none) ∙ l.invariant
