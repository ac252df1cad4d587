use Rattle.std.proofs.Common.{◌≡◌}
use Rattle.digest.specs.Sha256.{worked_in}
use Rattle.digest.proofs.blocks.work_in.Given as goal

-- The invariant: so many turns are done.
abbrev pub invariant-loop-t : goal.invariant-loop-t
invariant-loop-t l = l.worked ≡ worked_in l.t l.w l.initial.worked
