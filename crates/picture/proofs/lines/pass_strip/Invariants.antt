use Prim.Native.Nat.{◌-◌}
use lib.ListN.{length}
use lib.IntN.{ℤ}
use mathlib.Core.List.{List}
use Rattle.picture.specs.Passes.{strip_by, StripOver}
use Rattle.picture.proofs.Passing.{PassedTo}
use Rattle.picture.proofs.lines.pass_strip.Given as goal

-- The invariant: the colour's places passed have look's codes. The measure is what is left of the picture.
abbrev pub invariant-loop-i : goal.invariant-loop-i
invariant-loop-i l = (table : List ℤ) (s : StripOver l.strip table l.slopes l.bases l.src) → PassedTo (strip_by s.stripped) l.first l.src l.initial.dst l.i l.dst

abbrev pub decreases-loop-i : goal.decreases-loop-i
decreases-loop-i l = length l.src - l.i
