use Prim.Native.Nat.{◌*◌, ◌^◌}
use mathlib.Core.Path.{◌≡◌}
use Rattle.numbers.specs.Cuts.{kept}
use Rattle.numbers.proofs.padded.Given as goal

-- After so many turns the number has as many zeros more, kept.
abbrev pub invariant-loop : goal.invariant-loop
invariant-loop l = l.n ≡ kept l.limit (l.m * 10 ^ l.counter)
