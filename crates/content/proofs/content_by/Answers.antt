use mathlib.Core.Path.{◌∙◌}
use Rattle.rules.specs.Reading.Contents.{content_by}
use Rattle.rules.specs.declared.Item.TheVariants.{OfRow}
use Rattle.content.proofs.Mapped.{mapped}
use Rattle.content.proofs.content_by.Goals as goal

pub returns-in-Idle : goal.returns-in-Idle
unfolding content_by
returns-in-Idle c = rw c.in-Idle.is

pub returns-in-Data : goal.returns-in-Data
unfolding content_by
returns-in-Data c = rw c.in-Data.is (mapped c.row_on.result c.map.result OfRow _ (λ a i p. p) c.map.ensures.cases ∙ c.row_on.ensures)

pub returns-in-Neither : goal.returns-in-Neither
unfolding content_by
returns-in-Neither c = rw c.in-Neither.is
