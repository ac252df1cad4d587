use native.Mathlib.Omega.{arith}
use Rattle.whole.proofs.NearestLaws.{code-top}
use Rattle.colour.proofs.rows.sample_code.Goals as goal

pub overflow_cast-result : goal.overflow_cast-result
overflow_cast-result c = omega (arith, c.nearest.ensures, code-top c.times_m.result.0 10_000_000 c.args.m, c.ranges.m)
