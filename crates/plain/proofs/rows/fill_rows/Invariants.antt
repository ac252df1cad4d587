use Prim.Native.Nat.{◌+◌, ◌-◌, ◌*◌, ◌≤◌}
use mathlib.Core.Path.{◌≡◌}
use lib.ListN.{length}
use Rattle.plain.specs.Shapes.{Put}
use Rattle.plain.proofs.rows.fill_rows.Given as goal

-- The rows put before the place that the loop has come to, three places of the table for each.
abbrev pub invariant-loop-rows : goal.invariant-loop-rows
invariant-loop-rows l =
    (l.last + 39 ≤ length l.s) × (l.place ≡ l.to + 3 * l.rows) × Put l.s l.from l.most (record { rows = l.rows; at = l.at }) l.initial.table l.to l.table

abbrev pub decreases-loop-rows : goal.decreases-loop-rows
decreases-loop-rows l = l.most - l.rows
