use mathlib.Core.Path.{◌≡◌, sym, ◌∙◌}
use Rattle.std.specs.Prelude.{Err}
use Rattle.std.proofs.Common.{rules}
use Rattle.rules.specs.Looking.{judged_all}
use Rattle.halves.proofs.Listing.{wrong-then, fit-then}
use Rattle.halves.proofs.judging.judged_shares.Goals as goal

pub returns-in_err-colour_judged : goal.returns-in_err-colour_judged
unfolding judged_all
returns-in_err-colour_judged c =
    let same : c.from_residual.result ≡ Err c.in_err-colour_judged.field-0.0 = search rules in
    same ∙ sym (wrong-then _ _ (sym c.in_err-colour_judged.ensures))

pub returns-in_err-colour_judged-2 : goal.returns-in_err-colour_judged-2
unfolding judged_all
returns-in_err-colour_judged-2 c =
    let same : c.from_residual-in_err-colour_judged-2.result ≡ Err c.in_err-colour_judged-2.field-0.0 = search rules in
    same ∙ sym (fit-then _ _ (sym c.in_ok-colour_judged.ensures) ∙ wrong-then _ _ (sym c.in_err-colour_judged-2.ensures))

pub returns : goal.returns
unfolding judged_all
returns c =
    c.colour_judged-3.ensures ∙ sym (fit-then _ _ (sym c.in_ok-colour_judged.ensures) ∙ fit-then _ _ (sym c.in_ok-colour_judged-2.ensures))
