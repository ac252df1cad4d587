use mathlib.Core.Path.{◌≡◌, sym, ap, ◌∙◌}
use mathlib.Core.Bool.{Bool, true, false}
use lib.IntN.{pos}
use lib.Signed.{lt_z}
use mir.Syntax.{w64}
use mir.Val.{to_z, of_z}
use mir.ValLaws.{to_z-of_z}
use Rattle.halves.proofs.Listing.{row-beyond, row_below}
use Rattle.halves.proofs.judging.share_judged.Goals as goal
use Rattle.halves.proofs.judging.share_judged.Lts as lts
use Rattle.halves.proofs.judging.share_judged.Reads as reads

abbrev After-struct_told-1 : Type 0
After-struct_told-1 = lts.After-struct_told reads.Pre reads.Post

-- The weight is an i64.
-- below 0 as the code asks it
signed : (c : After-struct_told-1) → let z = c.before.before.before.before.args.share.weight in
    (t : Bool) → lt_z (to_z w64 (of_z w64 z)) (pos 0) ≡ t → lt_z z (pos 0) ≡ t
signed c t e = ap (λ x. lt_z x (pos 0)) (sym (to_z-of_z w64 c.before.before.before.before.args.share.weight (record { sfits = c.struct_told-1.given.1.0.1 }))) ∙ e

pub returns-then-share-count : goal.returns-then-share-count
returns-then-share-count c = let a = c.before.before.args in sym (row-beyond a.count a.share c.if-share-count.true)

pub returns-then-share-lt0 : goal.returns-then-share-lt0
returns-then-share-lt0 c = let k = c.before.before.before in let a = k.before.before.args in sym (row_below a.count a.share k.if-share-count.false true (signed c.before true c.if-share-lt0.true))

pub returns : goal.returns
returns c = let k = c.before.before.before in let a = k.before.before.args in sym (row_below a.count a.share k.if-share-count.false false (signed c.before false c.if-share-lt0.false))
