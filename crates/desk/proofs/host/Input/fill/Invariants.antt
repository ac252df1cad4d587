use Prim.Native.Nat.{◌≤◌, ◌-◌}
use mathlib.Core.Path.{◌≡◌}
use lib.ListN.{length}
use Rattle.desk.proofs.host.Input.fill.Given as goal

-- So many bytes of the space are filled, and its length stays.
abbrev pub invariant-loop-n : goal.invariant-loop-n
invariant-loop-n l = (l.n ≤ length l.space) × (length l.space ≡ length l.initial.space)

abbrev pub decreases-loop-n : goal.decreases-loop-n
decreases-loop-n l = length l.space - l.n
