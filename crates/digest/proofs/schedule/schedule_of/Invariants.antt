use Rattle.digest.specs.Sha256.{words_at}
use Rattle.digest.proofs.Schedules.{Extending}
use Rattle.digest.proofs.schedule.schedule_of.Given as goal

-- The invariant: the words so far are the schedule's.
abbrev pub invariant-loop-t : goal.invariant-loop-t
invariant-loop-t l = Extending (words_at 16 l.bytes l.at) l.w l.t
