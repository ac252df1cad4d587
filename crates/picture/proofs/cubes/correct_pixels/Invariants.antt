use Prim.Native.Nat.{◌+◌, ◌-◌, ◌%◌, ◌≤◌}
use mathlib.Core.Path.{◌≡◌}
use Rattle.picture.specs.Blocks.{Blocked, FilledTo}
use Rattle.picture.proofs.cubes.correct_pixels.Given as goal

-- The invariant: the pixels of the block that are passed are corrected. The measure is what is left of the block.
abbrev pub invariant-loop-i : goal.invariant-loop-i
invariant-loop-i g l =
    (l.i ≡ l.at + l.j) × ((l.j % 3 ≡ 0) × ((l.i ≤ l.end) × ((b : Blocked l.cube l.table l.keys l.starts l.initial.dst l.at l.end) → FilledTo b (l.at + l.j) l.dst)))

abbrev pub decreases-loop-i : goal.decreases-loop-i
decreases-loop-i g l = l.end - l.i
