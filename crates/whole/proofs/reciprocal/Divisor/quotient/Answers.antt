use Rattle.whole.proofs.Reciprocals.{not_more, guess-right, guess-short}
use Rattle.whole.proofs.reciprocal.Divisor.quotient.Goals as goal

pub overflow_sub-rest : goal.overflow_sub-rest
overflow_sub-rest c = let s = c.before in not_more s.args.n s.args.self s.requires

pub returns-then-rest-by : goal.returns-then-rest-by
returns-then-rest-by c = let s = c.before.before in guess-right s.args.n s.args.self s.requires c.if-rest-by.true

pub returns-else-rest-by : goal.returns-else-rest-by
returns-else-rest-by c = let s = c.before.before in guess-short s.args.n s.args.self s.requires c.if-rest-by.false
