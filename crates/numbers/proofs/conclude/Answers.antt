use Prim.Native.Nat.{ℕ, ◌≤◌}
use mathlib.Core.Path.{ap, ◌∙◌}
use native.Mathlib.Omega.{arith}
use borrow.Author.Tests.{lt-ltb, le-ltb, eq-eqb, ne_eqb}
use lib.IntN.{pos, +ℤ_idl}
use Rattle.whole.proofs.Held.{Held, cast, sub}
use Rattle.numbers.specs.Cuts.{answer, most_limit}
use Rattle.numbers.proofs.conclude.Goals as goal
use Rattle.std.specs.Prelude.{Ok}

-- The tests in the order of the definition; a quotient within the limit fits an i64, and so does its negative.
zero_held : Held 0 (pos 0) 0
zero_held = cast 0 0 (omega arith) (omega arith)

held : (q : ℕ) → q ≤ most_limit → Held q (pos q) most_limit
held q h = cast q most_limit h (omega arith)

pub returns-then-limit-q : goal.returns-then-limit-q
unfolding answer
returns-then-limit-q c = rw (lt-ltb _ _ c.if-limit-q.true)

pub returns-then-negative : goal.returns-then-negative
unfolding answer
returns-then-negative c =
    rw (le-ltb _ _ c.before.before.if-limit-q.false, eq-eqb _ _ c.before.if-r-eq0.true, c.if-negative.true)
    (ap Ok ((sub zero_held (held c.before.before.before.args.q (omega arith)) (omega arith)).reads ∙ +ℤ_idl _))

pub returns-then-r-eq0 : goal.returns-then-r-eq0
unfolding answer
returns-then-r-eq0 c =
    rw (le-ltb _ _ c.before.before.if-limit-q.false, eq-eqb _ _ c.before.if-r-eq0.true, c.if-negative.false)
    (ap Ok (held c.before.before.before.args.q (omega arith)).reads)

pub returns-then-q-limit : goal.returns-then-q-limit
unfolding answer
returns-then-q-limit c = rw (le-ltb _ _ c.before.before.if-limit-q.false, ne_eqb _ _ c.before.if-r-eq0.false, eq-eqb _ _ c.if-q-limit.true)

pub returns-else-q-limit : goal.returns-else-q-limit
unfolding answer
returns-else-q-limit c = rw (le-ltb _ _ c.before.before.if-limit-q.false, ne_eqb _ _ c.before.if-r-eq0.false, ne_eqb _ _ c.if-q-limit.false)
