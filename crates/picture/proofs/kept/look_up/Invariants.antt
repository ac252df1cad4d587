use Prim.Native.Nat.{◌-◌}
use lib.ListN.{length}
use Rattle.picture.specs.Blocks.{Filled}
use Rattle.picture.specs.Keeping.{kept_pixel}
use Rattle.picture.proofs.kept.look_up.Given as goal

-- The invariant: what is kept of the pixels passed stands in front of the output as it was. The measure is what is left of the picture.
abbrev pub invariant-loop-i : goal.invariant-loop-i
invariant-loop-i l = Filled (kept_pixel l.reds l.greens l.blues) l.src l.initial.dst l.i l.dst

abbrev pub decreases-loop-i : goal.decreases-loop-i
decreases-loop-i l = length l.src - l.i
