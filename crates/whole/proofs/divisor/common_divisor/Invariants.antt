use mathlib.Core.Path.{◌≡◌}
use Rattle.whole.specs.Divisors.{gcd}
use Rattle.whole.proofs.divisor.common_divisor.Given as goal

-- The invariant: the divisor sought is that of the two numbers now. The measure is the second, of which less is left at every step.
abbrev pub invariant-loop-y : goal.invariant-loop-y
invariant-loop-y l = gcd l.x l.y ≡ gcd l.a l.b

abbrev pub decreases-loop-y : goal.decreases-loop-y
decreases-loop-y l = l.y
