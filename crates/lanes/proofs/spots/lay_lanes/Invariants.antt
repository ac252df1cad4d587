use lib.ListN.{length}
use Rattle.lanes.specs.Spots.{lane_at}
use Rattle.lanes.proofs.Stored.{Stored}
use Rattle.lanes.proofs.spots.lay_lanes.Given as goal

-- The invariant: each of the three is filled up to the place that the loop has come to.
abbrev pub invariant-loop-j : goal.invariant-loop-j
invariant-loop-j l =
    Stored 0 (λ k. (lane_at l.lanes k).times) (length l.initial.times) l.j l.times × Stored 0 (λ k. (lane_at l.lanes k).from) (length l.initial.times) l.j l.from
    × Stored 0 (λ k. (lane_at l.lanes k).stride) (length l.initial.times) l.j l.strides
