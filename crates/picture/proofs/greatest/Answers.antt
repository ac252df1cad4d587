use native.Mathlib.Omega.{arith}
use Rattle.picture.proofs.Maxima.{one_more, all-passed}
use Rattle.picture.proofs.greatest.Goals as goal

pub loop-code-preserved : goal.loop-code-preserved
loop-code-preserved c =
    rw c.max-most.ensures (one_more c.args.codes.now c.loop-code.code-index c.loop-code.most (omega (arith, c.loop-code-test.true)) c.loop-code.invariant)

pub returns : goal.returns
returns c = all-passed _ c.loop-code.code-index c.loop-code.most (omega (arith, c.loop-code-test.false)) c.loop-code.invariant
