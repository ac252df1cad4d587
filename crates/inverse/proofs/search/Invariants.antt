use Prim.Native.Nat.{suc, ◌-◌}
use Rattle.colour.specs.Lines.{Lined}
use Rattle.inverse.specs.Finding.{corrected_by}
use Rattle.inverse.proofs.Trying.{Trying}
use Rattle.inverse.proofs.search.Given as goal

-- The invariant: going on from what is kept is the search. The measure is the codes that are left.
abbrev pub invariant-loop-found : goal.invariant-loop-found
invariant-loop-found l = (lined : Lined l.line l.table) → Trying (corrected_by lined) l.wanted l.m l.found

abbrev pub decreases-loop-found : goal.decreases-loop-found
decreases-loop-found l = suc l.m - l.found.tries
