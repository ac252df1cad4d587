use Prim.Native.Nat.{◌-◌}
use lib.ListN.{length}
use Rattle.colour.specs.Lines.{Lined}
use Rattle.picture.specs.Passes.{line_by}
use Rattle.picture.proofs.Passing.{PassedTo}
use Rattle.picture.proofs.lines.pass_line.Given as goal

-- The invariant: the colour's places passed have look's codes. The measure is what is left of the picture.
abbrev pub invariant-loop-i : goal.invariant-loop-i
invariant-loop-i l = (k : Lined l.line l.table) → PassedTo (line_by k) l.first l.src l.initial.dst l.i l.dst

abbrev pub decreases-loop-i : goal.decreases-loop-i
decreases-loop-i l = length l.src - l.i
