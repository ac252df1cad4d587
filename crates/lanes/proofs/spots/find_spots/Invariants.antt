use Prim.Native.Nat.{◌-◌, ◌≤◌}
use lib.ListN.{length, get_or}
use Rattle.lanes.specs.Spots.{spot_in, key_at, start_at}
use Rattle.lanes.proofs.Stored.{Stored}
use Rattle.lanes.proofs.spots.find_spots.Given as goal

-- The invariant: keys and places are found up to the code that the loop has come to.
abbrev pub invariant-loop-j : goal.invariant-loop-j
invariant-loop-j l =
    (l.j ≤ length l.codes) × Stored 0 (λ k. key_at l.den (spot_in l.codes l.times l.from k) (get_or l.strides k 0)) (length l.initial.keys) l.j l.keys
    × Stored 0 (λ k. start_at (spot_in l.codes l.times l.from k) (get_or l.strides k 0)) (length l.initial.starts) l.j l.starts

abbrev pub decreases-loop-j : goal.decreases-loop-j
decreases-loop-j l = length l.codes - l.j
