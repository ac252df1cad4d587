use Rattle.std.proofs.Common.{take}
use Rattle.lettering.specs.Putting.{Puts}
use Rattle.digest.specs.Hexadecimal.{hex_words}
use Rattle.digest.proofs.text.put_digest.Given as goal

-- The invariant: the words so far stand there.
abbrev pub invariant-loop-word : goal.invariant-loop-word
invariant-loop-word l = Puts l.initial.out l.at (hex_words (take l.word-index l.word-items)) l.end l.out
