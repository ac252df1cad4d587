use Prim.Native.Nat.{min}
use mathlib.Core.Path.{◌≡◌}
use lib.ListN.{length}
use Rattle.lanes.specs.Cubes.{Cubed}
use Rattle.picture.specs.Blocks.{correct_by, Within, Filled}
use Rattle.picture.proofs.cubes.correct_blocks.Given as goal

-- The invariant: the blocks that are passed are corrected.
abbrev pub invariant-loop-at : goal.invariant-loop-at
invariant-loop-at l =
    (length l.keys ≡ 192) × ((length l.starts ≡ 192) × ((q : Cubed l.cube l.table) → Within q l.src → Filled (correct_by q) l.src l.initial.dst (min l.at (length l.src)) l.dst))
