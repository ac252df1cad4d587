use native.Mathlib.Omega.{arith}
use Rattle.plain.proofs.Values.{negative-number, unsigned-number}
use Rattle.plain.proofs.number.number_end.Goals as goal

pub returns-then-s-at-eq45 : goal.returns-then-s-at-eq45
returns-then-s-at-eq45 c =
    let u = c.before.before.unsigned_end-next.ensures c.before.if-next-start.false in
    λ n. negative-number u (omega (arith, u.near)) c.before.before.before.before.if-s-at-eq45.true

pub returns : goal.returns
returns c = λ n. unsigned-number (c.unsigned_end.ensures n)
