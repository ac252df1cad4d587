use mathlib.Core.Path.{◌≡◌, sym, ◌∙◌}
use Rattle.std.specs.Prelude.{Err}
use Rattle.std.proofs.Common.{rules}
use Rattle.rules.specs.Looking.Judging.{each_judged}
use Rattle.halves.proofs.Listing.{last_then, wrong-then, fit-then}
use Rattle.halves.proofs.judging.each_judged.Goals as goal

-- What is wrong is found first.
pub returns-in_err-share_judged : goal.returns-in_err-share_judged
unfolding each_judged
returns-in_err-share_judged c =
    let same : c.from_residual.result ≡ Err c.in_err-share_judged.field-0.0 = search rules in
    same ∙ sym (wrong-then _ _ (sym c.in_err-share_judged.ensures))

pub returns-in_err-share_judged-2 : goal.returns-in_err-share_judged-2
unfolding each_judged
returns-in_err-share_judged-2 c =
    let same : c.from_residual-in_err-share_judged-2.result ≡ Err c.in_err-share_judged-2.field-0.0 = search rules in
    same ∙ sym (fit-then _ _ (sym c.in_ok-share_judged.ensures) ∙ wrong-then _ _ (sym c.in_err-share_judged-2.ensures))

pub returns-in_err-share_judged-3 : goal.returns-in_err-share_judged-3
unfolding each_judged
returns-in_err-share_judged-3 c =
    let same : c.from_residual-in_err-share_judged-3.result ≡ Err c.in_err-share_judged-3.field-0.0 = search rules in
    same
    ∙ sym (fit-then _ _ (sym c.in_ok-share_judged.ensures) ∙ fit-then _ _ (sym c.in_ok-share_judged-2.ensures) ∙ wrong-then _ _ (sym c.in_err-share_judged-3.ensures))

pub returns : goal.returns
unfolding each_judged
returns c =
    c.share_judged-4.ensures
    ∙ sym (fit-then _ _ (sym c.in_ok-share_judged.ensures) ∙ fit-then _ _ (sym c.in_ok-share_judged-2.ensures) ∙ fit-then _ _ (sym c.in_ok-share_judged-3.ensures) ∙ last_then _)
