use mathlib.Core.Path.{sym}
use Rattle.text.proofs.Standing.{step_end, step_line}
use Rattle.pointing.proofs.Counting.{sized-none, sized-end, size-here, size-later}
use Rattle.pointing.proofs.rows.size_in.Goals as goal

pub loop-start-init : goal.loop-start-init
loop-start-init c = sized-none c.args.file.now _ c.new-c.ensures.0 c.new-c.ensures.1

pub returns : goal.returns
returns c = sym (sized-end c.loop-start.invariant (step_end c.args.file.now c.loop-start.c c.loop-start.invariant.standing (sym c.in_default.ensures)))

pub slice_bounds-size_on-end : goal.slice_bounds-size_on-end
slice_bounds-size_on-end c = (step_line c.args.file.now c.loop-start.c c.loop-start.invariant.standing _ (sym c.in-Some.ensures)).inside

pub returns-in-Some-size_on : goal.returns-in-Some-size_on
returns-in-Some-size_on c =
    sym (size-here (step_line c.args.file.now c.loop-start.c c.loop-start.invariant.standing _ (sym c.in-Some.ensures)) c.loop-start.invariant c.in-Some-size_on.size (sym c.in-Some-size_on.ensures))

pub loop-start-preserved : goal.loop-start-preserved
loop-start-preserved c = size-later (step_line c.args.file.now c.loop-start.c c.loop-start.invariant.standing _ (sym c.in-Some.ensures)) c.loop-start.invariant (sym c.in_default-size_on.ensures)
