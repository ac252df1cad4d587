-- Bounds that a file may give.
use Rattle.std.specs.Prelude.{◌≤◌, nat_abs}
use Rattle.rules.specs.Units.{bound_limit}
use Rattle.rules.specs.declared.Bounds.{Bounds}

-- three bounds within ±10
abbrev pub BoundsWithin : Bounds → Type 0
BoundsWithin b = (nat_abs b.red.0 ≤ bound_limit) × (nat_abs b.green.0 ≤ bound_limit) × (nat_abs b.blue.0 ≤ bound_limit)
