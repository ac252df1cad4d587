use Prim.Native.Nat.{◌-◌}
use Rattle.pointing.proofs.Failing.{Failing}
use Rattle.pointing.proofs.words.first_wrong.Given as goal

-- The invariant is that the first wrong word is the one from this place on; each turn passes a word that is right.
abbrev pub invariant-loop : goal.invariant-loop
invariant-loop l = Failing l.wanted l.count l.l l.from (l.count - l.counter) l.place
