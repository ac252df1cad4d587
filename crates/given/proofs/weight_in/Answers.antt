use Rattle.given.proofs.FirstByte.{no_text, minus-first, no_minus}
use mathlib.Core.Path.{sym, ◌∙◌}
use Rattle.given.proofs.weight_in.Goals as goal

-- By the first byte, if there is one.
pub returns-then-text-eq0 : goal.returns-then-text-eq0
returns-then-text-eq0 c = sym (no_text _ c.if-text-eq0.true)

pub returns-then-text-eq45 : goal.returns-then-text-eq45
returns-then-text-eq45 c = c.weight_by.ensures ∙ minus-first _ c.if-text-eq0.false c.if-text-eq45.true

pub returns : goal.returns
returns c = c.weight_by-2.ensures ∙ no_minus _ c.if-text-eq0.false c.if-text-eq45.false
