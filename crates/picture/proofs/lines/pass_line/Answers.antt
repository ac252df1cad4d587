use Rattle.picture.proofs.Passing.{one-passed, all-passed}
use Rattle.picture.proofs.lines.pass_line.Goals as goal

pub loop-i-preserved : goal.loop-i-preserved
loop-i-preserved c = λ k. one-passed c.requires.passable (c.loop-i.invariant k) c.loop-i-test.true (c.line_code.ensures k)

pub returns : goal.returns
returns c = λ k. all-passed c.requires.passable (c.loop-i.invariant k) c.loop-i-test.false
