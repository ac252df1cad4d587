use mathlib.Core.Path.{◌≡◌, sym, ap, ◌∙◌}
use Prim.Native.Nat.{ℕ}
use Rattle.rules.specs.Units.{depth_of, depths_of, together, same_bits, same_depth}
use Rattle.rules.specs.Looking.{rows_with}
use Rattle.rules.specs.declared.Depth.{Depth}
use Rattle.rules.proofs.Answers.{is-finds}
use Rattle.rules.proofs.Looking.Halves.{first-24, first-20, first-with}
use Rattle.colour.proofs.Plans.{planned}
use Rattle.colour.proofs.Ratios.{ratio-known}
use Rattle.halves.proofs.Listing.{only-reason}
use Rattle.halves.proofs.first_half.Goals as goal
use Rattle.std.proofs.Common.{rules}
use Rattle.std.specs.Prelude.{Err, Some}

-- The checks run 24, 20, 23; what each has shown goes on to the next, and to the plan, which is made with the raw depth for both.
twice : (raw : ℕ) {depth : Depth} → depth_of raw ≡ Some depth → depths_of (same_bits raw) ≡ Some (same_depth depth)
twice raw e = ap (λ x. together x x) e

pub returns-then-not-could_be_read : goal.returns-then-not-could_be_read
returns-then-not-could_be_read c = is-finds (sym (first-24 _ _ _ _ (sym c.could_be_read.ensures ∙ c.if-not-could_be_read.true)))

pub returns-in_err-depth : goal.returns-in_err-depth
returns-in_err-depth c =
    let could = sym c.could_be_read.ensures ∙ c.if-not-could_be_read.false in
    let same : c.from_residual.result ≡ Err c.in_err-depth.field-0.0 = search rules in
    is-finds (same ∙ ap Err (only-reason _ c.in_err-depth.ensures.value) ∙ sym (first-20 _ _ _ _ could (sym c.of.ensures ∙ c.in_err-depth.ensures.ok_part)))

pub plan_of-requires-clause-in_terms : goal.plan_of-requires-clause-in_terms
plan_of-requires-clause-in_terms c =
    let known = sym c.of.ensures ∙ c.in_ok-depth.ensures.ok_part in ratio-known (same_bits c.args.raw) (same_depth c.in_ok-depth.depth) (twice c.args.raw known)

pub rows_by-requires : goal.rows_by-requires
rows_by-requires c =
    let could = sym c.could_be_read.ensures ∙ c.if-not-could_be_read.false in
    let known = sym c.of.ensures ∙ c.in_ok-depth.ensures.ok_part in
    (_, planned c.args.d (same_bits c.args.raw) could (twice c.args.raw known) c.plan_of.ensures)

pub returns : goal.returns
returns c =
    let a = c.args in
    let could = sym c.could_be_read.ensures ∙ c.if-not-could_be_read.false in
    let known = sym c.of.ensures ∙ c.in_ok-depth.ensures.ok_part in
    let there = planned a.d (same_bits a.raw) could (twice c.args.raw known) c.plan_of.ensures in
    is-finds
    (c.rows_by.ensures _ there c.greatest.ensures
    ∙ ap (λ x. rows_with a.d x a.pixel) c.greatest.ensures
    ∙ sym (first-with a.d a.table.now a.raw a.pixel c.in_ok-depth.depth could known))
