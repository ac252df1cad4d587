use mathlib.Core.Path.{sym, ◌∙◌}
use borrow.Author.Tests.{le-leb, lt-leb}
use Rattle.rules.specs.Reading.Lines.{line_limit}
use Rattle.rules.specs.Reading.Judge.{byte_fault, need}
use Rattle.text.proofs.lines.byte_fault.Goals as goal

-- The tests in the order of the checks.
pub returns-then-l-gt-LINE_LIMIT : goal.returns-then-l-gt-LINE_LIMIT
unfolding byte_fault need
returns-then-l-gt-LINE_LIMIT c = rw (lt-leb _ line_limit c.if-l-gt-LINE_LIMIT.true)

pub returns-then-not-every : goal.returns-then-not-every
unfolding byte_fault need
returns-then-not-every c = rw (le-leb _ line_limit c.before.before.if-l-gt-LINE_LIMIT.false, sym c.before.every.ensures ∙ c.if-not-every.true)

pub returns : goal.returns
unfolding byte_fault need
returns c = rw (le-leb _ line_limit c.before.before.if-l-gt-LINE_LIMIT.false, sym c.before.every.ensures ∙ c.if-not-every.false)
