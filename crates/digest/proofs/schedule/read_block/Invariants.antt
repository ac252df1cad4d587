use Rattle.digest.proofs.Schedules.{Reading}
use Rattle.digest.proofs.schedule.read_block.Given as goal

-- The invariant: the words so far are the block's.
abbrev pub invariant-loop-t : goal.invariant-loop-t
invariant-loop-t l = Reading l.bytes l.at l.w l.t
