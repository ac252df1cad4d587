use Prim.Native.Nat.{ℕ, ◌≤◌}
use mathlib.Core.Path.{◌≡◌, sym, ap, subst, ◌∙◌}
use mathlib.Core.List.{List}
use native.Mathlib.Omega.{arith}
use Rattle.std.proofs.Common.{of_calls}
use Rattle.rules.specs.Reading.Judge.{State}
use Rattle.text.specs.declared.cursor.Cursor.{Cursor}
use Rattle.text.proofs.Standing.{step_end, step_line}
use Rattle.plain.specs.Shapes.{Passed}
use Rattle.plain.specs.declared.rows.Run.{Run}
use Rattle.reading.specs.View.{counting, left}
use Rattle.reading.specs.Runs.{past}
use Rattle.reading.proofs.Fits.{fit}
use Rattle.reading.proofs.PlainRows.{run-forward}
use Rattle.reading.proofs.FirstPass.{Onward, begins, goes-on, run_on, stops, ends}
use Rattle.reading.proofs.first_pass.judge_file.Goals as goal

-- where the cursor is past the run, in the state with its rows
here : {file : List ℕ} {places most : ℕ} {st st' : State} {c c' : Cursor} {run : Run} → Onward file places st c → Passed file c.at most run → most ≤ left st
    → st' ≡ counting st run.rows → c' ≡ past c run → Onward file places st' c'
here {file} {places} {st = st} {st' = st'} {c = c} {run = run} o p few v e =
    subst (Onward file places st') (sym e) (subst (λ (g : State). Onward file places g (past c run)) (sym v) (run_on o p few))

pub loop-start-init : goal.loop-start-init
loop-start-init c = begins c.args.file.now c.args.places _ _ c.new-st.ensures (fit c.new-st.result) c.new-c.ensures.0 c.new-c.ensures.1

pub next_line-requires : goal.next_line-requires
next_line-requires c = (here c.loop-start.invariant c.pass_rows-run.ensures (omega arith) c.with_rows-st.ensures c.cursor_past-c.ensures).standing.small

pub returns-in_default : goal.returns-in_default
returns-in_default c =
    let h = here c.loop-start.invariant c.pass_rows-run.ensures (omega arith) c.with_rows-st.ensures c.cursor_past-c.ensures in
    c.conclude.ensures ∙ ends h (step_end c.args.file.now c.cursor_past-c.result h.standing (sym c.in_default.ensures))

pub slice_bounds-judge_line-end : goal.slice_bounds-judge_line-end
slice_bounds-judge_line-end c =
    let h = here c.loop-start.invariant c.pass_rows-run.ensures (omega arith) c.with_rows-st.ensures c.cursor_past-c.ensures in
    (step_line c.args.file.now c.cursor_past-c.result h.standing _ (sym c.in-Some.ensures)).inside

pub loop-start-smaller : goal.loop-start-smaller
loop-start-smaller c =
    let h = here c.loop-start.invariant c.pass_rows-run.ensures (omega arith) c.with_rows-st.ensures c.cursor_past-c.ensures in
    let found = step_line c.args.file.now c.cursor_past-c.result h.standing _ (sym c.in-Some.ensures) in
    omega (arith, run-forward c.pass_rows-run.ensures, ap (λ (c : Cursor). c.at) c.cursor_past-c.ensures, found.here, found.order, found.inside, found.place)

pub loop-start-preserved : goal.loop-start-preserved
loop-start-preserved c =
    let h = here c.loop-start.invariant c.pass_rows-run.ensures (omega arith) c.with_rows-st.ensures c.cursor_past-c.ensures in
    let found = step_line c.args.file.now c.cursor_past-c.result h.standing _ (sym c.in-Some.ensures) in
    let on = goes-on h found _ (sym c.in_default-judged.ensures) (fit c.in_default-judged.field-0) in
    subst (λ (st : State). Onward c.args.file.now c.args.places st c.in-Some.field-0.next) (search of_calls) on

pub returns-in-loop-start : goal.returns-in-loop-start
returns-in-loop-start c =
    let h = here c.loop-start.invariant c.pass_rows-run.ensures (omega arith) c.with_rows-st.ensures c.cursor_past-c.ensures in
    let found = step_line c.args.file.now c.cursor_past-c.result h.standing _ (sym c.in-Some.ensures) in
    stops h found _ (sym c.in-Err.ensures)
