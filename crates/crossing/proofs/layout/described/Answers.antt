use mathlib.Core.Path.{sym, ◌∙◌}
use Rattle.rules.specs.Boundary.{described_in}
use Rattle.crossing.proofs.layout.described.Goals as goal

-- A description is found exactly if its kind is.
pub returns-in_err-kind : goal.returns-in_err-kind
unfolding described_in
returns-in_err-kind c = c.from_residual.ensures ∙ rw (sym c.in_err-kind.ensures)

pub returns : goal.returns
unfolding described_in
returns c = rw (c.description_in.ensures, sym c.in_ok-kind.ensures)
