use mathlib.Core.Path.{◌≡◌, ap, sym, ◌∙◌}
use mathlib.Core.Bool.{true, false}
use Rattle.rules.specs.Reading.Contents.{closes}
use Rattle.rules.specs.Reading.Lines.{blank, every}
use Rattle.text.proofs.FirstBytes.{closes-first, empty-list}
use Rattle.scan.proofs.Runs.{part_to_end}
use Rattle.text.proofs.title.closes.Goals as goal
use Rattle.text.proofs.title.closes.Goals.{then-s-ne0, else-s-ne0}

-- The quote first, then the blanks after it.
pub returns-then-s-eq34 : goal.returns-then-s-eq34
returns-then-s-eq34 c =
    elim c.if-s-ne0.branch [
      | then-s-ne0 w ↦ rw (closes-first _ w.if-s-ne0.true, sym w.value-is ∙ c.if-s-eq34.true) (c.every.ensures ∙ ap (every blank) (part_to_end c.args.s.now 1))
      | else-s-ne0 w ↦ let wrong : false ≡ true = sym (w.value-is ∙ rw w.if-s-ne0.false) ∙ c.if-s-eq34.true in cc
    ]

pub returns-else-s-eq34 : goal.returns-else-s-eq34
unfolding closes
returns-else-s-eq34 c =
    elim c.if-s-ne0.branch [
      | then-s-ne0 w ↦ rw (c.if-s-eq34.false, closes-first _ w.if-s-ne0.true, sym w.value-is ∙ c.if-s-eq34.false)
      | else-s-ne0 w ↦ rw (c.if-s-eq34.false, empty-list c.args.s.now w.if-s-ne0.false)
    ]
