use Prim.Native.Nat.{ℕ, ◌<◌, min}
use mathlib.Core.Path.{subst, ◌∙◌}
use mathlib.Core.List.{List}
use native.Mathlib.Omega.{arith}
use lib.ListN.{length}
use Rattle.rules.specs.declared.Codes.{Codes}
use Rattle.picture.specs.Blocks.{correct_by, Filled}
use Rattle.lanes.proofs.Placing.{cube-narrow}
use Rattle.picture.proofs.Blocking.{roomy, few-codes, blocked, block-filled}
use Rattle.picture.proofs.Filled.{none_filled, all-filled}
use Rattle.picture.proofs.cubes.correct_blocks.Goals as goal

pub overflow_cast-den : goal.overflow_cast-den
overflow_cast-den c = record { fits = omega (arith, cube-narrow c.requires.within.0) }

pub loop-at-init : goal.loop-at-init
loop-at-init c = (c.requires.keys_len, (c.requires.starts_len, λ q w. subst (λ n. Filled (correct_by q) c.args.src.now c.args.dst.now n c.args.dst.now) (omega arith) (none_filled _ _ _)))

pub find_spots-requires : goal.find_spots-requires
find_spots-requires c =
    roomy c.requires.within.0 c.requires.laid (few-codes c.args.src.now c.loop-at-test.true c.block_end-end.ensures) c.loop-at.invariant.0 c.loop-at.invariant.1.0

-- ---- a block that is found

-- a block begins in the picture
begun : (f : Codes → Codes) (src dst : List ℕ) {at : ℕ} {dst' : List ℕ} → at < length src → Filled f src dst (min at (length src)) dst' → Filled f src dst at dst'
begun f src dst {at} {dst'} h s = subst (λ n. Filled f src dst n dst') (omega (arith, h)) s

pub correct_block-requires-clause-blocked : goal.correct_block-requires-clause-blocked
correct_block-requires-clause-blocked c =
    let (q, w) = c.requires.within in
    let i = c.loop-at.invariant in
    blocked c.args.src.now c.loop-at-test.true c.block_end-end.ensures q c.requires.laid w c.requires.fillable (begun _ _ _ c.loop-at-test.true (i.1.1 q w))
    (c.find_spots.auto.keys ∙ i.0) (c.find_spots.auto.starts ∙ i.1.0) c.find_spots.ensures

pub loop-at-preserved : goal.loop-at-preserved
loop-at-preserved c =
    let i = c.loop-at.invariant in
    let keys_long = c.find_spots.auto.keys ∙ i.0 in
    let starts_long = c.find_spots.auto.starts ∙ i.1.0 in (
      keys_long,
      (
        starts_long,
        λ q w. block-filled c.args.src.now c.loop-at-test.true c.block_end-end.ensures q c.requires.laid w c.requires.fillable (begun _ _ _ c.loop-at-test.true (i.1.1 q w))
            keys_long starts_long c.find_spots.ensures c.correct_block.ensures,
      ),
    )

pub returns : goal.returns
returns c = λ q w. all-filled c.requires.fillable (c.loop-at.invariant.1.1 q w) (omega (arith, c.loop-at-test.false))

-- at the last block
pub returns-2 : goal.returns-2
returns-2 c =
    let i = c.loop-at.invariant in
    λ q w. all-filled c.requires.fillable
    (block-filled c.args.src.now c.loop-at-test.true c.block_end-end.ensures q c.requires.laid w c.requires.fillable (begun _ _ _ c.loop-at-test.true (i.1.1 q w))
    (c.find_spots.auto.keys ∙ i.0) (c.find_spots.auto.starts ∙ i.1.0) c.find_spots.ensures c.correct_block.ensures)
    (omega arith)
