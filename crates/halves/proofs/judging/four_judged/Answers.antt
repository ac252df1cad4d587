use mathlib.Core.Path.{◌≡◌, sym, ◌∙◌}
use Rattle.std.specs.Prelude.{Err}
use Rattle.std.proofs.Common.{rules}
use Rattle.rules.proofs.Looking.Judging.{fit-not-negative}
use Rattle.halves.specs.Listed.{listed}
use Rattle.halves.proofs.Listing.{wrong-then, fit-then}
use Rattle.halves.proofs.judging.four_judged.Goals as goal

pub sum_judged-requires-clause-not_negative : goal.sum_judged-requires-clause-not_negative
sum_judged-requires-clause-not_negative c = fit-not-negative c.args.count (listed c.args.four) (sym c.in_ok-each_judged.ensures)

pub returns-in_err-each_judged : goal.returns-in_err-each_judged
returns-in_err-each_judged c =
    let same : c.from_residual.result ≡ Err c.in_err-each_judged.field-0.0 = search rules in
    same ∙ sym (wrong-then _ _ (sym c.in_err-each_judged.ensures))

pub returns : goal.returns
returns c = c.sum_judged.ensures ∙ sym (fit-then _ _ (sym c.in_ok-each_judged.ensures))
