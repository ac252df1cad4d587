use mathlib.Core.Path.{◌≡◌, sym, subst, ◌∙◌}
use mathlib.Core.Bool.{false}
use Prim.Native.Nat.{◌≤◌, ◌<◌}
use borrow.Author.Tests.{eq-eqb, ne_eqb, lt-ltb, le-ltb}
use lib.Dec.{eqb}
use lib.IntN.{pos}
use lib.Signed.{lt_z}
use mir.Syntax.{w64}
use mir.Val.{SFits}
use mir.ValLaws.{to_z-of_z}
use Rattle.exact.proofs.Settling.{above-test, is-below, is-above, is-exact, is-tie, is-nearest}
use Rattle.exact.proofs.settled.how_settled.Goals as goal
use Rattle.exact.proofs.settled.how_settled.Lts as lts
use Rattle.exact.proofs.settled.how_settled.Reads as reads
use Rattle.exact.proofs.settled.how_settled.Tie as ties

abbrev After-struct_told-1 : Type 0
After-struct_told-1 = lts.After-struct_told ties.the-claims reads.Pre reads.Post

abbrev Else-sum-lt0 : Type 0
Else-sum-lt0 = lts.Else1 ties.the-claims reads.Pre reads.Post

abbrev Else-e-above : Type 0
Else-e-above = lts.Else2 ties.the-claims reads.Pre reads.Post

abbrev Else-v-eq0 : Type 0
Else-v-eq0 = lts.Else3 ties.the-claims reads.Pre reads.Post

abbrev Start : Type 0
Start = lts.Start ties.the-claims reads.Pre reads.Post

-- Each answer is the definition's, by how the tests came out.
fits : (c : After-struct_told-1) → SFits w64 c.before.args.s.0
fits c = record { sfits = c.struct_told-1.given.0.1 }

-- ---- what has been passed
abbrev entry : Else-sum-lt0 → Start
entry c = c.before.before

low : (c : Else-sum-lt0) → lt_z (entry c).args.s.0 (pos 0) ≡ false
low c = rw (to_z-of_z w64 _ (fits c.before)) at c.if-sum-lt0.false

abbrev inside : Else-e-above → Else-sum-lt0
inside c = c.before.before

high : (c : Else-e-above) → lt_z (pos (entry (inside c)).args.e) (entry (inside c)).args.s.0 ≡ false
high c = let a = (entry (inside c)).args in above-test a.e a.s.0 ∙ le-ltb _ _ (subst (λ n. n ≤ a.e) c.before.above.ensures c.if-e-above.false)

abbrev between : Else-v-eq0 → Else-e-above
between c = c.before.before

some : (c : Else-v-eq0) → eqb (entry (inside (between c))).args.v.rest 0 ≡ false
some c = ne_eqb _ _ c.if-v-eq0.false

-- ---- the answers
pub returns-then-sum-lt0 : goal.returns-then-sum-lt0
returns-then-sum-lt0 c =
    let a = c.before.before.args in
    sym (is-below a.s.0 a.e a.v.rest a.v.unit (rw (to_z-of_z w64 _ (fits c.before)) at c.if-sum-lt0.true))

pub returns-then-e-above : goal.returns-then-e-above
returns-then-e-above c =
    let k = c.before.before in
    let a = (entry k).args in
    sym (is-above a.s.0 a.e a.v.rest a.v.unit (low k) (above-test a.e a.s.0 ∙ lt-ltb _ _ (subst (λ n. a.e < n) c.before.above.ensures c.if-e-above.true)))

pub returns-then-v-eq0 : goal.returns-then-v-eq0
returns-then-v-eq0 c =
    let k = c.before.before in
    let a = (entry (inside k)).args in
    sym (is-exact a.s.0 a.e a.v.rest a.v.unit (low (inside k)) (high k) (eq-eqb _ _ c.if-v-eq0.true))

pub returns-then-is_half : goal.returns-then-is_half
returns-then-is_half c =
    let tested = c.before in
    let k = between tested.before in
    let a = (entry (inside k)).args in
    sym (is-tie a.s.0 a.e a.v.rest a.v.unit (low (inside k)) (high k) (some tested.before) (sym tested.is_half.ensures ∙ c.if-is_half.true))

pub returns : goal.returns
returns c =
    let tested = c.before in
    let k = between tested.before in
    let a = (entry (inside k)).args in
    sym (is-nearest a.s.0 a.e a.v.rest a.v.unit (low (inside k)) (high k) (some tested.before) (sym tested.is_half.ensures ∙ c.if-is_half.false))
