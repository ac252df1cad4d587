use lib.IntN.{pos}
use lib.ListN.{length}
use Rattle.lanes.proofs.Stored.{Stored}
use Rattle.strips.specs.Strips.{slope_of, base_of}
use Rattle.strips.proofs.lay_pieces.Given as goal

-- The invariant: slopes and bases are those of the cells up to the one that the loop has come to.
abbrev pub invariant-loop-i : goal.invariant-loop-i
invariant-loop-i l =
    Stored (pos 0) (slope_of l.strip l.table) (length l.initial.slopes) l.i l.slopes × Stored (pos 0) (base_of l.strip l.table) (length l.initial.bases) l.i l.bases
