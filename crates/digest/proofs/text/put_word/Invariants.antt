use Rattle.lettering.proofs.Texts.{PutInPart}
use Rattle.digest.specs.Hexadecimal.{hex_word}
use Rattle.digest.proofs.text.put_word.Given as goal

-- The invariant: the digits so far stand there.
abbrev pub invariant-loop-i : goal.invariant-loop-i
invariant-loop-i l = PutInPart l.initial.out l.at (hex_word l.word) l.i l.out
