use borrow.Author.Rules.{rules}
use Rattle.rules.specs.Reading.Lines.{bytes}
use Rattle.rules.specs.Reporting.{refused_line}
use Rattle.rules.specs.Fields.{parted}
use Rattle.reporting.proofs.put_refused.Goals as goal

pub put_counts-requires : goal.put_counts-requires
unfolding refused_line parted bytes
put_counts-requires c = rw c.number.ensures c.requires

pub returns : goal.returns
unfolding refused_line parted bytes
returns c =
    let line = rw c.number.ensures at c.put_counts.ensures in
    search (rules, line.puts, line.same_bytes)
