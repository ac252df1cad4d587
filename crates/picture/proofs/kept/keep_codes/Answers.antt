use native.Mathlib.Omega.{arith}
use Rattle.lanes.proofs.Stored.{one-stored}
use Rattle.picture.proofs.kept.keep_codes.Goals as goal

pub loop-c-preserved : goal.loop-c-preserved
loop-c-preserved c = λ k. one-stored (c.loop-c.invariant k) (omega (arith, c.loop-c-test.true, c.requires.count_in_bounds)) (c.line_code.ensures k)

pub returns : goal.returns
returns c =
    λ k. record {
      long = omega (arith, (c.loop-c.invariant k).long, c.requires.count_in_bounds);
      are = λ j h. (c.loop-c.invariant k).are j (omega (arith, h, c.loop-c-test.false));
    }
