use native.Mathlib.Omega.{arith}
use Rattle.plain.proofs.Values.{as-cast, decimals-less, piece, whole-alone, whole-less, with-decimals}
use Rattle.plain.proofs.number.unsigned_end.Goals as goal

pub overflow_mul-units : goal.overflow_mul-units
overflow_mul-units c = omega (arith, whole-less (piece (omega arith) c.before.before.three_at_most-whole.ensures))

pub overflow_cast-value : goal.overflow_cast-value
overflow_cast-value c = omega (arith, whole-less (piece (omega arith) c.before.before.before.before.three_at_most-whole.ensures))

pub returns-then-s-point-ne46 : goal.returns-then-s-point-ne46
returns-then-s-point-ne46 c =
    let w = piece (omega arith) c.before.before.before.before.three_at_most-whole.ensures in
    λ n. as-cast (whole-alone w n)

pub overflow_mul-value : goal.overflow_mul-value
overflow_mul-value c =
    let g = c.before.before in
    let f = piece (omega arith) g.seven_at_most-fraction.ensures in
    omega (arith, decimals-less f c.before.unit_of.ensures)

pub overflow_add-value : goal.overflow_add-value
overflow_add-value c =
    let g = c.before.before in
    let f = piece (omega arith) g.seven_at_most-fraction.ensures in
    let w = piece (omega arith) g.before.before.before.before.before.three_at_most-whole.ensures in
    omega (arith, whole-less w, decimals-less f c.before.unit_of.ensures)

pub overflow_cast-value-2 : goal.overflow_cast-value-2
overflow_cast-value-2 c =
    let g = c.before.before in
    let f = piece (omega arith) g.seven_at_most-fraction.ensures in
    let w = piece (omega arith) g.before.before.before.before.before.three_at_most-whole.ensures in
    omega (arith, whole-less w, decimals-less f c.before.unit_of.ensures)

pub returns : goal.returns
returns c =
    let g = c.before.before in
    let f = piece (omega arith) g.seven_at_most-fraction.ensures in
    let k = g.before.before.before.before.before in
    let w = piece (omega arith) k.three_at_most-whole.ensures in
    λ n. as-cast (with-decimals w g.before.before.before.before.if-point-at.false g.before.if-s-point-ne46.false f (omega (arith, f.end, f.few)) c.before.unit_of.ensures)
