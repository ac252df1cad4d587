use native.Mathlib.Omega.{arith}
use Rattle.plain.proofs.Found.{row-there}
use Rattle.plain.proofs.rows.row_end.Goals as goal

-- Three numbers, each where the one before it and a space end.
pub returns : goal.returns
returns c =
    let a = c.number_end-a.ensures c.if-a-at.false in
    let b = c.number_end-b.ensures c.if-b-second.false in
    let d = c.number_end-c.ensures c.if-c-third.false in
    λ _. row-there a c.if-s-a-ne32.false b c.if-s-b-ne32.false d c.if-s-c-ne10.false (omega (arith, c.requires, a.near, b.near, d.near))
