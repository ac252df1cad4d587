use mathlib.Core.Path.{sym, ◌∙◌}
use Rattle.text.proofs.Standing.{step_end, step_line}
use Rattle.explain.proofs.Seeking.{begins, ends, here, one_less, passes}
use Rattle.explain.proofs.lines.line_of.Goals as goal

pub loop-start-init : goal.loop-start-init
loop-start-init c = begins c.args.file.now c.args.row _ c.new-c.ensures.0 c.new-c.ensures.1

pub returns : goal.returns
returns c =
    sym (ends c.loop-start.invariant (step_end c.args.file.now c.loop-start.c c.loop-start.invariant.standing (sym c.in_default.ensures)))

pub slice_bounds-is_data-end : goal.slice_bounds-is_data-end
slice_bounds-is_data-end c = (step_line c.args.file.now c.loop-start.c c.loop-start.invariant.standing _ (sym c.in-Some.ensures)).inside

pub returns-then-rows_before-eq0 : goal.returns-then-rows_before-eq0
returns-then-rows_before-eq0 c =
    sym (here c.loop-start.invariant (step_line c.args.file.now c.loop-start.c c.loop-start.invariant.standing _ (sym c.in-Some.ensures)) (sym c.is_data.ensures ∙ c.if-is_data.true) c.if-rows_before-eq0.true)

pub loop-start-preserved-else-rows_before-eq0 : goal.loop-start-preserved-else-rows_before-eq0
loop-start-preserved-else-rows_before-eq0 c =
    one_less c.loop-start.invariant (step_line c.args.file.now c.loop-start.c c.loop-start.invariant.standing _ (sym c.in-Some.ensures)) (sym c.is_data.ensures ∙ c.if-is_data.true) c.if-rows_before-eq0.false

pub loop-start-preserved : goal.loop-start-preserved
loop-start-preserved c =
    passes c.loop-start.invariant (step_line c.args.file.now c.loop-start.c c.loop-start.invariant.standing _ (sym c.in-Some.ensures)) (sym c.is_data.ensures ∙ c.if-is_data.false)
