use Rattle.scan.specs.Kinds.{kind_of}
use Rattle.scan.proofs.Runs.{every-run}
use Rattle.text.proofs.runs.every.Goals as goal

pub returns : goal.returns
returns c =
    let a = c.before.before.args in
    rw (every-run (kind_of a.k) a.s.now, c.run_length.ensures.counts)
