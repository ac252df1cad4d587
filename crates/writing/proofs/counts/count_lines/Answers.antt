use mathlib.Core.Path.{ap, ◌∙◌}
use lib.ListN.{length}
use Rattle.rules.specs.declared.Row.{Row}
use Rattle.writing.specs.Rows.{text_of}
use Rattle.writing.proofs.Lengths.{none-counted, one-counted}
use Rattle.writing.proofs.counts.count_lines.Goals as goal

pub loop-i-init : goal.loop-i-init
loop-i-init c = none-counted _ _

pub loop-i-preserved : goal.loop-i-preserved
loop-i-preserved c =
    let counts = c.count_row-total.ensures.counts ∙ ap (λ (r : Row). length (text_of r)) c.row_at.ensures in
    one-counted c.count_row-total.result c.requires.rows_in_bounds c.loop-i-test.true c.loop-i.invariant counts c.count_row-total.ensures.few
