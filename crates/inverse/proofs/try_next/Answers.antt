use Rattle.inverse.specs.Finding.{corrected_by}
use Rattle.inverse.proofs.Trying.{nearer, no-nearer}
use Rattle.inverse.proofs.try_next.Goals as goal

pub returns-then-off-found : goal.returns-then-off-found
returns-then-off-found c = λ l so. nearer (corrected_by l) c.args.wanted c.args.found so (c.off_by-off.ensures l) c.if-off-found.true

pub returns : goal.returns
returns c = λ l so. no-nearer (corrected_by l) c.args.wanted c.args.found so (c.off_by-off.ensures l) c.if-off-found.false
