use mathlib.Core.Path.{◌≡◌, sym, ap, ◌∙◌}
use native.Mathlib.Omega.{arith}
use borrow.Author.Rules.{rules}
use lib.IntN.{ℤ, pos}
use lib.Signed.{lt_z}
use mir.Syntax.{w64}
use mir.Val.{SFits, to_z, of_z}
use mir.ValLaws.{to_z-of_z}
use Rattle.whole.specs.Integers.{up}
use Rattle.placing.proofs.Sides.{is-below, is-above, is_within}
use Rattle.placing.proofs.side.side_of.Goals as goal

-- Each branch is one test of the definition, whose number is the rule's.
sign : {s t : ℤ} → SFits w64 s → s ≡ t → lt_z (to_z w64 (of_z w64 s)) (pos 0) ≡ lt_z t (pos 0)
sign fits is = ap (λ z. lt_z z (pos 0)) (to_z-of_z w64 _ fits ∙ is)

pub returns-then-from-lt0 : goal.returns-then-from-lt0
returns-then-from-lt0 c =
    let a = c.args in
    let fits : SFits w64 c.from_lower-from.result.0 = search rules in
    is-below a.m a.domain a.code (sym (sign fits c.from_lower-from.ensures) ∙ c.if-from-lt0.true)

pub returns-then-above-own_den : goal.returns-then-above-own_den
returns-then-above-own_den c =
    let a = c.args in
    let fits : SFits w64 c.from_lower-from.result.0 = search rules in
    is-above a.m a.domain a.code (sym (sign fits c.from_lower-from.ensures) ∙ c.if-from-lt0.false)
    (omega (arith, c.if-above-own_den.true, c.own_den.ensures, c.above.ensures ∙ ap up c.from_lower-from.ensures))

pub returns : goal.returns
returns c =
    let a = c.args in
    let fits : SFits w64 c.from_lower-from.result.0 = search rules in
    is_within a.m a.domain a.code (sym (sign fits c.from_lower-from.ensures) ∙ c.if-from-lt0.false)
    (omega (arith, c.if-above-own_den.false, c.own_den.ensures, c.above.ensures ∙ ap up c.from_lower-from.ensures))
