use mathlib.Core.Path.{◌≡◌, sym, subst, ◌∙◌}
use mathlib.Core.Bool.{true}
use Rattle.rules.specs.Units.{in_range}
use Rattle.rules.specs.Descriptions.{every_colour, bounds_fit}
use Rattle.rules.specs.Reading.Judge.{describe}
use Rattle.rules.specs.declared.Description.{Description}
use Rattle.reading.proofs.Fits.{describe-fits, fit, given-there}
use Rattle.reading.proofs.checks.head_fault.Goals as goal

-- The description is judged where there is a size, and its bounds the state keeps within ±10.
pub domain_fault-requires-clause-n_value : goal.domain_fault-requires-clause-n_value
unfolding describe
domain_fault-requires-clause-n_value c =
    subst (λ (d : Description). in_range d.kind d.n ≡ true) (sym c.describe.ensures) ((fit c.args.st).size_within (given-there c.args.st.size ∙ c.is_none.ensures ∙ rw c.if-is_none.false))

pub domain_fault-requires-clause-d_value : goal.domain_fault-requires-clause-d_value
domain_fault-requires-clause-d_value c =
    subst (λ (d : Description). every_colour bounds_fit d ≡ true) (sym c.describe.ensures) (describe-fits (fit c.args.st))
