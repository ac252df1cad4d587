use Rattle.rules.specs.Reading.Lines.{bytes}
use Rattle.rules.specs.Reporting.{domain_line, domain_lines}
use Rattle.rules.specs.Fields.{parted}
use Rattle.lettering.proofs.Pens.{adds-both, room-between, room-last}
use Rattle.lettering.proofs.Texts.{first-room}
use Rattle.reporting.proofs.put_domains.Goals as goal

pub put_domain-requires : goal.put_domain-requires
unfolding domain_lines domain_line parted bytes
put_domain-requires c = first-room _ _ c.requires

pub put_domain-requires-2 : goal.put_domain-requires-2
unfolding domain_lines domain_line parted bytes
put_domain-requires-2 c = room-between _ _ c.put_domain.ensures c.requires

pub put_domain-requires-3 : goal.put_domain-requires-3
unfolding domain_lines domain_line parted bytes
put_domain-requires-3 c = room-last _ _ c.put_domain-2.ensures c.put_domain.ensures c.requires

pub returns : goal.returns
unfolding domain_lines domain_line parted bytes
returns c = adds-both c.put_domain.ensures (adds-both c.put_domain-2.ensures c.put_domain-3.ensures)
