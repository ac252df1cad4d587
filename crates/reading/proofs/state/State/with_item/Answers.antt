use mathlib.Core.Path.{sym, ap, ◌∙◌}
use Rattle.rules.specs.Reading.Judge.{add}
use Rattle.reading.specs.View.{view}
use Rattle.reading.proofs.state.State.with_item.Goals as goal

-- What that method adds is what the item adds.
pub returns-in-Nothing : goal.returns-in-Nothing
unfolding add
returns-in-Nothing c = rw c.in-Nothing.is

pub returns-in-OfRow : goal.returns-in-OfRow
unfolding add
returns-in-OfRow c = c.with_rows.ensures ∙ ap (add (view c.args.self)) (sym c.in-OfRow.is)
