use borrow.Author.Rules.{rules}
use Rattle.scan.specs.Kinds.{kind_of}
use Rattle.scan.proofs.Runs.{part-after}
use Rattle.text.proofs.runs.after.Goals as goal

pub returns : goal.returns
returns c =
    let a = c.before.before.before.args in
    record { rest = part-after (kind_of a.k) a.s.now _ c.before.run_length-n.ensures.counts; within = search rules }
