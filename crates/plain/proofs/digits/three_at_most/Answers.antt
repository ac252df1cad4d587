use mathlib.Core.Path.{sym, ◌∙◌}
use native.Mathlib.Omega.{arith}
use Rattle.plain.proofs.Spelling.{none_yet, one_more, so-far-small}
use Rattle.plain.proofs.digits.three_at_most.Goals as goal

pub loop-k-init : goal.loop-k-init
loop-k-init c = none_yet _ _ _

pub overflow_mul-value : goal.overflow_mul-value
overflow_mul-value c = omega (arith, so-far-small c.loop-k.invariant c.requires.1 (omega arith))

pub overflow_add-value : goal.overflow_add-value
overflow_add-value c = omega (arith, so-far-small c.loop-k.invariant c.requires.1 (omega arith))

pub loop-k-preserved : goal.loop-k-preserved
loop-k-preserved c = rw c.digit_value.ensures.counts (one_more c.loop-k.invariant (omega arith) (sym c.is_digit.ensures ∙ c.if-not-is_digit.false))
