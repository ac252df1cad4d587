use native.Mathlib.Omega.{arith}
use Rattle.rules.specs.Boundary.{RowsFit}
use Rattle.crossing.proofs.layout.rows_laid.Goals as goal

-- Each row fits 32 bits.
pub overflow_cast-result : goal.overflow_cast-result
unfolding RowsFit
overflow_cast-result c = record { fits = omega (arith, c.before.requires.0) }

pub overflow_cast-result-2 : goal.overflow_cast-result-2
unfolding RowsFit
overflow_cast-result-2 c = record { fits = omega (arith, c.before.before.requires.1.0) }

pub overflow_cast-result-3 : goal.overflow_cast-result-3
unfolding RowsFit
overflow_cast-result-3 c = record { fits = omega (arith, c.before.before.before.requires.1.1.0) }

pub overflow_cast-result-4 : goal.overflow_cast-result-4
unfolding RowsFit
overflow_cast-result-4 c = record { fits = omega (arith, c.before.before.before.before.requires.1.1.1.0) }

pub overflow_cast-result-5 : goal.overflow_cast-result-5
unfolding RowsFit
overflow_cast-result-5 c = record { fits = omega (arith, c.before.before.before.before.before.requires.1.1.1.1.0) }

pub overflow_cast-result-6 : goal.overflow_cast-result-6
unfolding RowsFit
overflow_cast-result-6 c = record { fits = omega (arith, c.before.before.before.before.before.before.requires.1.1.1.1.1.0) }
