-- A code that no depth has, or one that 16 bits hold.
use Rattle.invert.specs.Saying.{aim_of, said_of}
use Rattle.invert.proofs.answers.find.Goals as goal

pub returns-then-question-gt-MOST : goal.returns-then-question-gt-MOST
unfolding said_of
returns-then-question-gt-MOST c = c.beyond_said.ensures _ (aim_of c.args.question) c.if-question-gt-MOST.true

pub returns : goal.returns
unfolding said_of
returns c = c.aimed_said.ensures
