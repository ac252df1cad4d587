use Rattle.std.proofs.Common.{sym, ◌∙◌}
use Rattle.rules.specs.Descriptions.{one_domain}
use Rattle.judge.proofs.Alike.{same-domain}
use Rattle.judge.proofs.one_domain.Goals as goal

pub returns-then-eq : goal.returns-then-eq
unfolding one_domain
returns-then-eq c = rw (sym (c.eq.ensures ∙ same-domain c.args.d.green c.args.d.red) ∙ c.if-eq.true) (c.eq-then-eq.ensures ∙ same-domain c.args.d.blue c.args.d.red)

pub returns-else-eq : goal.returns-else-eq
unfolding one_domain
returns-else-eq c = rw (sym (c.eq.ensures ∙ same-domain c.args.d.green c.args.d.red) ∙ c.if-eq.false) c.if-eq.false
