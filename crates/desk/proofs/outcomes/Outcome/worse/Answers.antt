use mathlib.Core.Path.{refl}
use borrow.Author.Tests.{lt-ltb, le-ltb}
use Rattle.desk.specs.Outcomes.{worse_of}
use Rattle.desk.proofs.outcomes.Outcome.worse.Goals as goal

pub returns-then-status : goal.returns-then-status
unfolding worse_of
returns-then-status c = let t = c.before in rw (← t.before.status.ensures, ← t.status-2.ensures, lt-ltb _ _ c.if-status.true) refl

pub returns : goal.returns
unfolding worse_of
returns c = let t = c.before in rw (← t.before.status.ensures, ← t.status-2.ensures, le-ltb _ _ c.if-status.false) refl
