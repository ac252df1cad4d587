use Rattle.picture.proofs.Passing.{strip-there, one-passed, all-passed}
use Rattle.picture.proofs.lines.pass_strip.Goals as goal

pub strip_code-requires : goal.strip_code-requires
strip_code-requires c = let (table, s) = c.requires.strip_over in (table, strip-there s c.loop-i.i c.loop-i-test.true)

pub loop-i-preserved : goal.loop-i-preserved
loop-i-preserved c =
    λ table s. one-passed c.requires.passable (c.loop-i.invariant table s) c.loop-i-test.true (c.strip_code.ensures table (strip-there s c.loop-i.i c.loop-i-test.true))

pub returns : goal.returns
returns c = λ table s. all-passed c.requires.passable (c.loop-i.invariant table s) c.loop-i-test.false
