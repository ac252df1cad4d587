use mathlib.Core.Path.{◌∙◌, sym}
use Rattle.rules.specs.Reading.Lines.{number_byte}
use Rattle.scan.proofs.Runs.{starts-empty, starts_first}
use Rattle.text.proofs.lines.starts_number.Goals as goal

-- An empty word has no first byte.
pub returns-else-w-ne0 : goal.returns-else-w-ne0
returns-else-w-ne0 c = rw c.if-w-ne0.false (sym (starts-empty number_byte c.args.w.now c.if-w-ne0.false))

pub returns-then-w-ne0 : goal.returns-then-w-ne0
returns-then-w-ne0 c = c.is_number_byte.ensures ∙ sym (starts_first number_byte c.args.w.now c.if-w-ne0.true)
