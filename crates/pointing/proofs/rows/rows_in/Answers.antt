use mathlib.Core.Path.{sym, ◌∙◌}
use Rattle.text.proofs.Standing.{step_end, step_line}
use Rattle.pointing.proofs.Counting.{counted_none, counted-all, one_more, no_more}
use Rattle.pointing.proofs.rows.rows_in.Goals as goal

pub loop-start-init : goal.loop-start-init
loop-start-init c = counted_none c.args.file.now _ c.new-c.ensures.0 c.new-c.ensures.1

pub returns : goal.returns
returns c = counted-all c.loop-start.invariant (step_end c.args.file.now c.loop-start.c c.loop-start.invariant.standing (sym c.in_default.ensures))

pub slice_bounds-is_data-end : goal.slice_bounds-is_data-end
slice_bounds-is_data-end c = (step_line c.args.file.now c.loop-start.c c.loop-start.invariant.standing _ (sym c.in-Some.ensures)).inside

pub loop-start-preserved-then-is_data : goal.loop-start-preserved-then-is_data
loop-start-preserved-then-is_data c = one_more (step_line c.args.file.now c.loop-start.c c.loop-start.invariant.standing _ (sym c.in-Some.ensures)) c.loop-start.invariant (sym c.is_data.ensures ∙ c.if-is_data.true)

pub loop-start-preserved : goal.loop-start-preserved
loop-start-preserved c = no_more (step_line c.args.file.now c.loop-start.c c.loop-start.invariant.standing _ (sym c.in-Some.ensures)) c.loop-start.invariant (sym c.is_data.ensures ∙ c.if-is_data.false)
