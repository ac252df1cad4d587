use Prim.Native.Nat.{ℕ, ◌-◌}
use mathlib.Core.Path.{◌≡◌, sym, ap, ◌∙◌}
use mathlib.Core.List.{List}
use native.Mathlib.Omega.{arith}
use lib.ListN.{length, take, drop, length-take, length-drop}
use Rattle.rules.specs.Reading.Lines.{lines_of}
use Rattle.text.specs.declared.cursor.Cursor.{Cursor}
use Rattle.text.proofs.Standing.{LineFound, step_end, step_line}
use Rattle.pointing.specs.Pointing.{line_from}
use Rattle.pointing.proofs.Ahead.{Ahead, begins, ends, here, one_less}
use Rattle.pointing.proofs.lines.line_past.Goals as goal

pub loop-start-init : goal.loop-start-init
loop-start-init c = begins c.args.file.now c.args.others _ c.new-c.ensures.0 c.new-c.ensures.1

pub returns-clause-is : goal.returns-clause-is
returns-clause-is c = sym (ends c.loop-start.invariant (step_end c.args.file.now c.loop-start.c c.loop-start.invariant.standing (sym c.in_default.ensures)))

-- the line at the cursor, as a place and a length
at-cursor : {file : List ℕ} {others left from to line : ℕ} {c next : Cursor} → Ahead file others c left → LineFound file c from to line next → left ≡ 0
    → record { place = from; length = to - from } ≡ line_from 0 others (lines_of file)
at-cursor {file} {from = from} {to} a found z =
    let long : length (take (to - from) (drop from file)) ≡ to - from = omega (arith, length-take (to - from) (drop from file), length-drop from file, found.order, found.inside) in
    sym (here a found z ∙ ap (λ (k : ℕ). record { place = from; length = k }) long)

pub returns-then-left-eq0 : goal.returns-then-left-eq0
returns-then-left-eq0 c =
    let found = step_line c.args.file.now c.loop-start.c c.loop-start.invariant.standing _ (sym c.in-Some.ensures) in
    record { is = at-cursor c.loop-start.invariant found c.if-left-eq0.true; within = omega (arith, found.order, found.inside) }

pub loop-start-preserved : goal.loop-start-preserved
loop-start-preserved c = one_less c.loop-start.invariant (step_line c.args.file.now c.loop-start.c c.loop-start.invariant.standing _ (sym c.in-Some.ensures)) c.if-left-eq0.false
