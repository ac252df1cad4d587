use mathlib.Core.Path.{refl, ap, ◌∙◌}
use borrow.Author.Tests.{le-leb, lt-leb}
use Rattle.rules.specs.Reading.Contents.{content_by}
use Rattle.rules.specs.declared.Form.{Form}
use Rattle.pointing.specs.Counts.{size_said, size_on}
use Rattle.pointing.proofs.rows.size_on.Goals as goal

-- By the line's length, and then by what it says.
pub returns-then-l-gt-LINE_LIMIT : goal.returns-then-l-gt-LINE_LIMIT
unfolding size_on
returns-then-l-gt-LINE_LIMIT c = rw (lt-leb _ _ c.if-l-gt-LINE_LIMIT.true) refl

pub returns : goal.returns
unfolding size_on
returns c =
    let l = c.before.before.before.before.before.args.l.now in
    rw (le-leb _ _ c.before.before.before.if-l-gt-LINE_LIMIT.false) (c.size_said.ensures ∙ ap size_said (c.before.content_by.ensures ∙ ap (λ (f : Form). content_by f 0 l) c.before.before.form_of.ensures))
