use Rattle.digest.specs.Parts.{ended}
use Rattle.digest.proofs.Paddings.{Filling}
use Rattle.digest.proofs.padding.last_bytes.Given as goal

-- The invariant: the bytes so far are those of the end of the padded message.
abbrev pub invariant-loop-i : goal.invariant-loop-i
invariant-loop-i l = Filling 128 (ended l.rest l.bits) l.last l.i
