use Rattle.lettering.proofs.LastDigits.{LastInPart}
use Rattle.lettering.proofs.digits.put_last.Given as goal

-- The invariant: the digits put so far are the end of the text, and those of what is left are still to come. The measure is how many.
abbrev pub invariant-loop-i : goal.invariant-loop-i
invariant-loop-i l = LastInPart l.initial.out l.at l.count l.n l.out l.i l.left

abbrev pub decreases-loop-i : goal.decreases-loop-i
decreases-loop-i l = l.i
