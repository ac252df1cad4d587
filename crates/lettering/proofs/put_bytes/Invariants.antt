use Rattle.lettering.proofs.Texts.{PutInPart}
use Rattle.lettering.proofs.put_bytes.Given as goal

-- The invariant: the first i bytes of the text stand from the place on, and every other byte is as it was.
abbrev pub invariant-loop-i : goal.invariant-loop-i
invariant-loop-i l = PutInPart l.initial.out l.at l.text l.i l.out
