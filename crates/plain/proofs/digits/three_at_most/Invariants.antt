use Rattle.plain.proofs.Spelling.{SoFar}
use Rattle.plain.proofs.digits.three_at_most.Given as goal

-- The digits up to the place that the loop has come to, and the number that they spell.
abbrev pub invariant-loop-k : goal.invariant-loop-k
invariant-loop-k l = SoFar l.s l.from l.m l.k l.value
