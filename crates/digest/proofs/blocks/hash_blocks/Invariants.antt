use Rattle.std.proofs.Common.{◌≡◌}
use Rattle.digest.specs.Sha256.{hashed}
use Rattle.digest.proofs.blocks.hash_blocks.Given as goal

-- The invariant: so many blocks are worked in.
abbrev pub invariant-loop-i : goal.invariant-loop-i
invariant-loop-i l = l.hash ≡ hashed l.i l.bytes l.initial.hash
