use mathlib.Core.Path.{◌≡◌, sym, ap, ◌∙◌}
use Rattle.rules.specs.Units.{raw_m}
use Rattle.rules.specs.Looking.{rows_with, look_by}
use Rattle.rules.proofs.Answers.{is-looks}
use Rattle.rules.proofs.Looking.Checks.{look-24, look-20, look-joins}
use Rattle.rules.proofs.Looking.Halves.{rows-shown}
use Rattle.colour.proofs.Plans.{planned}
use Rattle.colour.proofs.Ratios.{ratio-known}
use Rattle.colour.proofs.Weighing.{shown-weighable}
use Rattle.halves.proofs.Listing.{only-reason}
use Rattle.halves.proofs.look.Goals as goal
use Rattle.std.specs.Prelude.{Err}
use Rattle.std.proofs.Common.{rules}
use Rattle.rules.specs.Results.{look_of}

-- The checks run 24, 20, 23; what each has shown goes on to the next, and to the plan of the two halves.
pub returns-then-not-could_be_read : goal.returns-then-not-could_be_read
returns-then-not-could_be_read c = is-looks (sym (look-24 _ _ _ _ (sym c.could_be_read.ensures ∙ c.if-not-could_be_read.true)))

pub returns-in_err-depths : goal.returns-in_err-depths
returns-in_err-depths c =
    let could = sym c.could_be_read.ensures ∙ c.if-not-could_be_read.false in
    let same : c.from_residual.result ≡ Err c.in_err-depths.field-0.0 = search rules in
    is-looks (same ∙ ap Err (only-reason _ c.in_err-depths.ensures.value) ∙ sym (look-20 _ _ _ _ could (sym c.of.ensures ∙ c.in_err-depths.ensures.ok_part)))

pub plan_of-plan-requires-clause-in_terms : goal.plan_of-plan-requires-clause-in_terms
plan_of-plan-requires-clause-in_terms c = ratio-known c.args.bits c.in_ok-depths.depths (sym c.of.ensures ∙ c.in_ok-depths.ensures.ok_part)

pub rows_by-requires : goal.rows_by-requires
rows_by-requires c =
    let could = sym c.could_be_read.ensures ∙ c.if-not-could_be_read.false in
    let known = sym c.of.ensures ∙ c.in_ok-depths.ensures.ok_part in
    (_, planned c.args.d c.args.bits could known c.plan_of-plan.ensures)

pub codes_of-codes-requires-clause-planned : goal.codes_of-codes-requires-clause-planned
codes_of-codes-requires-clause-planned c =
    let could = sym c.could_be_read.ensures ∙ c.if-not-could_be_read.false in
    let known = sym c.of.ensures ∙ c.in_ok-depths.ensures.ok_part in
    planned c.args.d c.args.bits could known c.plan_of-plan.ensures

pub codes_of-codes-requires-clause-weighable : goal.codes_of-codes-requires-clause-weighable
codes_of-codes-requires-clause-weighable c =
    let a = c.args in
    let could = sym c.could_be_read.ensures ∙ c.if-not-could_be_read.false in
    let known = sym c.of.ensures ∙ c.in_ok-depths.ensures.ok_part in
    let p = planned a.d a.bits could known c.plan_of-plan.ensures in
    let m = c.greatest.ensures in
    let first = c.in_ok-shares.ensures _ p m ∙ ap (λ x. rows_with a.d x a.pixel) m in
    shown-weighable p _ a.pixel (rows-shown a.d (raw_m c.in_ok-depths.depths) a.pixel (sym first))

pub returns-in_err-shares : goal.returns-in_err-shares
returns-in_err-shares c =
    let a = c.args in
    let could = sym c.could_be_read.ensures ∙ c.if-not-could_be_read.false in
    let known = sym c.of.ensures ∙ c.in_ok-depths.ensures.ok_part in
    let p = planned a.d a.bits could known c.plan_of-plan.ensures in
    let m = c.greatest.ensures in
    let first = c.in_err-shares.ensures _ p m ∙ ap (λ x. rows_with a.d x a.pixel) m in
    let same : c.from_residual-in_err-shares.result ≡ Err c.in_err-shares.field-0.0 = search rules in
    is-looks
    (same
    ∙ ap (look_by a.d a.table.now c.in_ok-depths.depths) first
    ∙ sym (look-joins a.d a.table.now a.bits a.pixel c.in_ok-depths.depths could known))

pub returns : goal.returns
returns c =
    let a = c.args in
    let could = sym c.could_be_read.ensures ∙ c.if-not-could_be_read.false in
    let known = sym c.of.ensures ∙ c.in_ok-depths.ensures.ok_part in
    let p = planned a.d a.bits could known c.plan_of-plan.ensures in
    let m = c.greatest.ensures in
    let first = c.in_ok-shares.ensures _ p m ∙ ap (λ x. rows_with a.d x a.pixel) m in
    is-looks
    (ap (λ x. look_of x c.in_ok-shares.shares) (c.codes_of-codes.ensures p)
    ∙ ap (look_by a.d a.table.now c.in_ok-depths.depths) first
    ∙ sym (look-joins a.d a.table.now a.bits a.pixel c.in_ok-depths.depths could known))
