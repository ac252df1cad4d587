use mathlib.Core.Path.{sym, ap₂, subst, ◌∙◌}
use Prim.Native.Nat.{◌-◌, ◌<◌}
use native.Mathlib.Nat as NatL
use lib.IntN.{◌+ℤ◌}
use Rattle.whole.specs.Integers.{up}
use Rattle.exact.specs.Values.{Apart}
use Rattle.exact.proofs.Distances.{evenly, behind, beyond}
use Rattle.exact.proofs.distance.distance_of.Goals as goal

-- The three cases of the law. The whole is far within an i64, and so are its opposite and that with the code.
pub returns-then-rest-eq0 : goal.returns-then-rest-eq0
returns-then-rest-eq0 c =
    let a = c.args in
    let ahead = c.plus-ahead.ensures ∙ ap₂ ◌+ℤ◌ c.times-back.ensures c.of.ensures in
    subst (λ n. Apart a.code a.v (record { whole = n; rest = a.v.rest })) (sym c.size-whole.ensures)
    (evenly a.code a.v c.requires.rest_lt_unit _ ahead c.if-rest-eq0.true)

pub returns-then-above-eq0 : goal.returns-then-above-eq0
returns-then-above-eq0 c =
    let a = c.args in
    let ahead = c.plus-ahead.ensures ∙ ap₂ ◌+ℤ◌ c.times-back.ensures c.of.ensures in
    subst (λ n. Apart a.code a.v (record { whole = n; rest = a.v.rest })) (sym c.size-whole.ensures)
    (behind a.code a.v c.requires.rest_lt_unit _ ahead (sym c.above.ensures ∙ c.if-above-eq0.true))

pub returns : goal.returns
returns c =
    let a = c.args in
    let ahead = c.plus-ahead.ensures ∙ ap₂ ◌+ℤ◌ c.times-back.ensures c.of.ensures in
    let there : 0 < up c.plus-ahead.result.0 = subst (λ n. 0 < n) c.above.ensures (NatL.pos_of_ne-zero c.if-above-eq0.false) in
    subst (λ n. Apart a.code a.v (record { whole = n - 1; rest = a.v.unit - a.v.rest })) (sym c.size-whole.ensures)
    (beyond a.code a.v c.requires.rest_lt_unit _ ahead there (NatL.pos_of_ne-zero c.if-rest-eq0.false))
