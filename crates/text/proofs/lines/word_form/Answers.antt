use mathlib.Core.Path.{sym, ◌∙◌}
use Rattle.rules.specs.Reading.Contents.{word_form}
use Rattle.text.proofs.lines.word_form.Goals as goal

pub returns-then-starts_number : goal.returns-then-starts_number
unfolding word_form
returns-then-starts_number c = rw (sym c.before.starts_number.ensures ∙ c.if-starts_number.true)

pub returns-in-Some : goal.returns-in-Some
unfolding word_form
returns-in-Some c = rw (sym c.starts_number.ensures ∙ c.if-starts_number.false, sym c.in-Some.ensures)

pub returns-in-None : goal.returns-in-None
unfolding word_form
returns-in-None c = rw (sym c.starts_number.ensures ∙ c.if-starts_number.false, sym c.in-None.ensures)
