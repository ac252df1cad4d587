use mathlib.Core.Path.{sym, ◌∙◌}
use borrow.Author.Tests.{not-false}
use Rattle.explain.proofs.Spanning.{idle-same, carrying-widens}
use Rattle.explain.proofs.rows.wider.Goals as goal

pub returns-then-not-carries : goal.returns-then-not-carries
returns-then-not-carries c den wide =
    idle-same _ c.args.share c.args.span (sym c.carries.ensures ∙ c.if-not-carries.true)

pub returns : goal.returns
returns c den wide =
    carrying-widens _ c.args.share c.args.span c.row_code-code.result _ _
    (sym c.carries.ensures ∙ not-false _ c.if-not-carries.false-raw) (c.row_code-code.ensures den wide) c.min-least.ensures c.max-greatest.ensures
