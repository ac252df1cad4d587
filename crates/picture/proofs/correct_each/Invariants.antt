use Rattle.rules.specs.Looking.{correct}
use Rattle.colour.specs.Plans.{Planned}
use Rattle.picture.specs.Blocks.{Filled}
use Rattle.picture.proofs.correct_each.Given as goal

-- The invariant: what the rule makes of the pixels passed stands in front of the output as it was.
abbrev pub invariant-loop-i : goal.invariant-loop-i
invariant-loop-i l = (p : Planned l.plan l.table) → Filled (correct p.d l.table p.depths) l.src l.initial.dst l.i l.dst
