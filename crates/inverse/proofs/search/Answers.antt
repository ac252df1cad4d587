use native.Mathlib.Omega.{arith}
use Rattle.inverse.specs.Finding.{corrected_by}
use Rattle.inverse.proofs.Trying.{first-tried, hit, all-tried, tried-more, next-tried}
use Rattle.inverse.proofs.search.Goals as goal

pub loop-found-init : goal.loop-found-init
loop-found-init c = λ l. first-tried (corrected_by l) _ (c.off_by.ensures l)

pub returns-then-found-eq0 : goal.returns-then-found-eq0
returns-then-found-eq0 c = λ l. hit (corrected_by l) c.args.wanted (c.loop-found.invariant l) c.if-found-eq0.true

pub loop-found-smaller : goal.loop-found-smaller
loop-found-smaller c =
    let l = c.requires in
    let t = c.loop-found.invariant l in
    omega (arith, tried-more (corrected_by l) c.args.wanted t (c.try_next-found.ensures l t.off-so), c.loop-found-test.true)

pub loop-found-preserved : goal.loop-found-preserved
loop-found-preserved c =
    λ l. let t = c.loop-found.invariant l in next-tried (corrected_by l) c.args.wanted t c.if-found-eq0.false c.loop-found-test.true (c.try_next-found.ensures l t.off-so)

pub returns : goal.returns
returns c = λ l. all-tried (corrected_by l) c.args.wanted (c.loop-found.invariant l) c.loop-found-test.false
