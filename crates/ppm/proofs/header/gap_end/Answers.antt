use Prim.Native.Nat.{◌+◌}
use mathlib.Core.Path.{◌≡◌, sym, ap, ◌∙◌}
use lib.ListN.{length}
use Rattle.ppm.specs.Header.{gap_end}
use Rattle.ppm.proofs.Gaps.{gap_more, gap-stop, gap-over}
use native.Mathlib.Omega.{arith}
use Rattle.ppm.proofs.header.gap_end.Goals as goal

pub returns-then-not-goes_on : goal.returns-then-not-goes_on
returns-then-not-goes_on c =
    let s = c.args.s.now in
    record { ends = sym (c.loop-i.invariant ∙ gap-stop c.loop-i.comment s c.loop-i.i (omega arith) (sym c.goes_on.ensures ∙ c.if-not-goes_on.true)); within = omega arith }

pub loop-i-preserved : goal.loop-i-preserved
loop-i-preserved c =
    let s = c.args.s.now in
    c.loop-i.invariant
    ∙ gap_more c.loop-i.comment s c.loop-i.i (omega arith) (sym c.goes_on.ensures ∙ c.if-not-goes_on.false)
    ∙ ap (λ b. gap_end b s (c.loop-i.i + 1)) (sym c.comment_after-comment.ensures)

pub returns : goal.returns
returns c =
    let s = c.args.s.now in
    let over : c.loop-i.i ≡ length s = omega (arith, c.loop-i.auto.i-end c.requires) in
    record { ends = sym (c.loop-i.invariant ∙ gap-over c.loop-i.comment s c.loop-i.i (omega arith) ∙ over); within = omega arith }
