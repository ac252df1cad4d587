use Prim.Native.Nat.{◌+◌, ◌-◌, ◌≤◌}
use lib.ListN.{length}
use Rattle.plain.specs.Shapes.{Passed}
use Rattle.plain.proofs.rows.pass_rows.Given as goal

-- The rows passed before the place that the loop has come to.
abbrev pub invariant-loop-rows : goal.invariant-loop-rows
invariant-loop-rows l = (l.last + 39 ≤ length l.s) × Passed l.s l.from l.most (record { rows = l.rows; at = l.at })

abbrev pub decreases-loop-rows : goal.decreases-loop-rows
decreases-loop-rows l = l.most - l.rows
