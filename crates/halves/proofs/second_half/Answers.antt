use mathlib.Core.Path.{◌≡◌, sym, ap, refl, ◌∙◌}
use mathlib.Core.Bool.{false}
use Rattle.rules.specs.Units.{raw_m}
use Rattle.rules.specs.Looking.{judged_all}
use Rattle.rules.proofs.Answers.{is-gives}
use Rattle.rules.proofs.Looking.Halves.{second-24, second-20, second-26, second-0}
use Rattle.rules.proofs.Looking.Judging.{all-weighable}
use Rattle.rules.proofs.Tests.{no_true}
use Rattle.rules.specs.Results.{Judged}
use Rattle.colour.proofs.Plans.{planned}
use Rattle.colour.proofs.Ratios.{ratio-known}
use Rattle.colour.proofs.Weighing.{plan-weighable}
use Rattle.halves.proofs.Listing.{only-reason}
use Rattle.halves.proofs.second_half.Goals as goal
use Rattle.std.proofs.Common.{rules}
use Rattle.std.specs.Prelude.{Ok, Err, is_err}

-- fit, where nothing is wrong
no_error : (j : Judged) → is_err j ≡ false → j ≡ Ok tt
no_error (Ok _) e = refl
no_error (Err _) e = absurd (no_true e)

-- The checks run 24, 20, 26; what each has shown goes on to the next, and to the plan and the codes.
pub returns-then-not-could_be_read : goal.returns-then-not-could_be_read
returns-then-not-could_be_read c = is-gives (sym (second-24 _ _ _ _ (sym c.could_be_read.ensures ∙ c.if-not-could_be_read.true)))

pub returns-in_err-depths : goal.returns-in_err-depths
returns-in_err-depths c =
    let could = sym c.could_be_read.ensures ∙ c.if-not-could_be_read.false in
    let same : c.from_residual.result ≡ Err c.in_err-depths.field-0.0 = search rules in
    is-gives (same ∙ ap Err (only-reason _ c.in_err-depths.ensures.value) ∙ sym (second-20 _ _ _ _ could (sym c.of.ensures ∙ c.in_err-depths.ensures.ok_part)))

pub returns-then-is_err : goal.returns-then-is_err
returns-then-is_err c =
    let a = c.args in
    let could = sym c.could_be_read.ensures ∙ c.if-not-could_be_read.false in
    let known = sym c.of.ensures ∙ c.in_ok-depths.ensures.ok_part in
    let judging = c.judged_shares.ensures ∙ ap (λ m. judged_all a.d m a.shares) c.greatest.ensures in
    is-gives (sym (second-26 _ _ _ _ c.in_ok-depths.depths could known (λ e. no_true (sym (ap is_err (sym (judging ∙ e)) ∙ sym c.is_err.ensures.value ∙ c.if-is_err.true)))))

pub plan_of-requires-clause-in_terms : goal.plan_of-requires-clause-in_terms
plan_of-requires-clause-in_terms c = ratio-known c.args.bits c.in_ok-depths.depths (sym c.of.ensures ∙ c.in_ok-depths.ensures.ok_part)

pub codes_of-requires-clause-planned : goal.codes_of-requires-clause-planned
codes_of-requires-clause-planned c =
    let could = sym c.could_be_read.ensures ∙ c.if-not-could_be_read.false in
    let known = sym c.of.ensures ∙ c.in_ok-depths.ensures.ok_part in
    planned c.args.d c.args.bits could known c.plan_of.ensures

pub codes_of-requires-clause-weighable : goal.codes_of-requires-clause-weighable
codes_of-requires-clause-weighable c =
    let a = c.args in
    let could = sym c.could_be_read.ensures ∙ c.if-not-could_be_read.false in
    let known = sym c.of.ensures ∙ c.in_ok-depths.ensures.ok_part in
    let judging = c.judged_shares.ensures ∙ ap (λ m. judged_all a.d m a.shares) c.greatest.ensures in
    plan-weighable (planned a.d a.bits could known c.plan_of.ensures) a.shares (all-weighable a.d (raw_m c.in_ok-depths.depths) a.shares (sym judging ∙ no_error _ (sym c.is_err.ensures.value ∙ c.if-is_err.false)))

pub returns : goal.returns
returns c =
    let a = c.args in
    let could = sym c.could_be_read.ensures ∙ c.if-not-could_be_read.false in
    let known = sym c.of.ensures ∙ c.in_ok-depths.ensures.ok_part in
    let judging = c.judged_shares.ensures ∙ ap (λ m. judged_all a.d m a.shares) c.greatest.ensures in
    is-gives
    (ap Ok (c.codes_of.ensures (planned a.d a.bits could known c.plan_of.ensures))
    ∙ sym (second-0 a.d a.table.now a.bits a.shares c.in_ok-depths.depths could known (sym judging ∙ no_error _ (sym c.is_err.ensures.value ∙ c.if-is_err.false))))
