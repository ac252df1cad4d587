use Prim.Native.Nat.{◌+◌, ◌≤◌}
use mathlib.Core.Path.{◌≡◌}
use lib.ListN.{drop}
use Rattle.rules.specs.Reading.Numerals.{spell}
use Rattle.numbers.specs.Cuts.{kept}
use Rattle.numbers.proofs.spelt.Given as goal

-- What the digits spell is what those that are left spell after the number so far, both kept.
abbrev pub invariant-loop-b : goal.invariant-loop-b
invariant-loop-b l = (l.n ≤ l.limit + 1) × (kept l.limit (spell l.m l.s) ≡ kept l.limit (spell l.n (drop l.b-index l.s)))
