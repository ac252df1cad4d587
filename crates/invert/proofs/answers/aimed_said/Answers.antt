-- What is said of what the inverse answers.
use mathlib.Core.Path.{◌≡◌, sym, ap, ◌∙◌}
use Rattle.std.specs.Prelude.{Err}
use Rattle.std.proofs.Common.{rules}
use Rattle.rules.proofs.Answers.{inverts-is}
use Rattle.invert.proofs.Saying.{found-said, said-accepted, said-refused}
use Rattle.invert.proofs.answers.aimed_said.Goals as goal

pub returns : goal.returns
returns c = ap found-said c.found_by.ensures ∙ said-accepted _ _ _ _ c.corrected_to-corrected.ensures (sym (inverts-is c.inverse.ensures) ∙ c.in_ok-code.was)

pub returns-in_err-code : goal.returns-in_err-code
returns-in_err-code c =
    let same : c.from_residual.result ≡ Err c.in_err-code.field-0.0 = search rules in
    same ∙ said-refused _ _ _ _ (sym (inverts-is c.inverse.ensures) ∙ c.in_err-code.was)
