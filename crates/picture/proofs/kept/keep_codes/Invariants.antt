use lib.ListN.{length}
use Rattle.colour.specs.Lines.{Lined}
use Rattle.lanes.proofs.Stored.{Stored}
use Rattle.picture.specs.Passes.{line_by}
use Rattle.picture.proofs.kept.keep_codes.Given as goal

-- The invariant: the codes up to the one that the loop has come to are kept.
abbrev pub invariant-loop-c : goal.invariant-loop-c
invariant-loop-c l = (k : Lined l.line l.table) → Stored 0 (line_by k) (length l.initial.kept) l.c l.kept
