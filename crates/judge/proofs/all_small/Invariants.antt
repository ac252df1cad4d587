use mir.Syntax.{w64}
use mir.Val.{of_z}
use Rattle.judge.proofs.Together.{Together}
use Rattle.judge.proofs.all_small.Given as goal

-- The invariant: the bits so far bound each number passed, unless the sign bit is among them.
abbrev pub invariant-loop-s : goal.invariant-loop-s
invariant-loop-s l = Together l.samples l.s-index (of_z w64 l.any)
