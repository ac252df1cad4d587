use mathlib.Core.Path.{sym, ◌∙◌}
use Rattle.rules.specs.Reading.Lines.{bytes}
use Rattle.command.specs.Verbs.{asks_help}
use Rattle.command.proofs.verbs.asks_help.Goals as goal

pub returns-then-is_named : goal.returns-then-is_named
unfolding asks_help bytes
returns-then-is_named c = rw (sym c.is_named.ensures ∙ c.if-is_named.true)

pub returns : goal.returns
unfolding asks_help bytes
returns c = rw (sym c.is_named.ensures ∙ c.if-is_named.false, sym c.is_named-2.ensures)
