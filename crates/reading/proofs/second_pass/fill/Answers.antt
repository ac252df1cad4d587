use Prim.Native.Nat.{ℕ, ◌+◌, ◌*◌}
use mathlib.Core.Path.{◌≡◌, sym, ap, subst}
use mathlib.Core.List.{List}
use native.Mathlib.Omega.{arith}
use lib.IntN.{ℤ}
use Rattle.text.specs.declared.cursor.Cursor.{Cursor}
use Rattle.text.proofs.Standing.{step_end, step_line}
use Rattle.plain.specs.Shapes.{Put}
use Rattle.plain.specs.declared.rows.Run.{Run}
use Rattle.reading.specs.Runs.{past}
use Rattle.reading.proofs.PlainRows.{run-forward}
use Rattle.reading.proofs.SecondPass.{Filled, begins, fits, goes-on, run_on, ends, line-keeps}
use Rattle.reading.proofs.second_pass.fill.Goals as goal

-- where the cursor is past the run, with the table after it
here : {file : List ℕ} {old table table' : List ℤ} {at most : ℕ} {c c' : Cursor} {run : Run} → Filled file old table c at → Put file c.at most run table at table'
    → c' ≡ past c run → Filled file old table' c' (at + 3 * run.rows)
here {file} {old} {table' = table'} {at} {run = run} f p e = subst (λ c. Filled file old table' c (at + 3 * run.rows)) (sym e) (run_on f p)

pub loop-start-init : goal.loop-start-init
loop-start-init c = begins c.args.file.now c.args.table.now _ c.requires c.new-c.ensures.0 c.new-c.ensures.1

pub next_line-requires : goal.next_line-requires
next_line-requires c = (here c.loop-start.invariant c.fill_rows-run.ensures c.cursor_past-c.ensures).standing.small

pub returns-in_default : goal.returns-in_default
returns-in_default c =
    let h = here c.loop-start.invariant c.fill_rows-run.ensures c.cursor_past-c.ensures in
    ends h (step_end c.args.file.now c.cursor_past-c.result h.standing (sym c.in_default.ensures))

pub slice_bounds-put_line-end : goal.slice_bounds-put_line-end
slice_bounds-put_line-end c =
    let h = here c.loop-start.invariant c.fill_rows-run.ensures c.cursor_past-c.ensures in
    (step_line c.args.file.now c.cursor_past-c.result h.standing _ (sym c.in-Some.ensures)).inside

pub put_line-at-requires-clause-line_keeps : goal.put_line-at-requires-clause-line_keeps
put_line-at-requires-clause-line_keeps c =
    let h = here c.loop-start.invariant c.fill_rows-run.ensures c.cursor_past-c.ensures in
    line-keeps h (step_line c.args.file.now c.cursor_past-c.result h.standing _ (sym c.in-Some.ensures))

pub put_line-at-requires-clause-l_in_bounds : goal.put_line-at-requires-clause-l_in_bounds
put_line-at-requires-clause-l_in_bounds c =
    let h = here c.loop-start.invariant c.fill_rows-run.ensures c.cursor_past-c.ensures in
    fits h (step_line c.args.file.now c.cursor_past-c.result h.standing _ (sym c.in-Some.ensures))

pub loop-start-smaller : goal.loop-start-smaller
loop-start-smaller c =
    let h = here c.loop-start.invariant c.fill_rows-run.ensures c.cursor_past-c.ensures in
    let found = step_line c.args.file.now c.cursor_past-c.result h.standing _ (sym c.in-Some.ensures) in
    omega (arith, run-forward c.fill_rows-run.ensures.passed, ap (λ (c : Cursor). c.at) c.cursor_past-c.ensures, found.here, found.order, found.inside, found.place)

pub loop-start-preserved : goal.loop-start-preserved
loop-start-preserved c =
    let h = here c.loop-start.invariant c.fill_rows-run.ensures c.cursor_past-c.ensures in
    let found = step_line c.args.file.now c.cursor_past-c.result h.standing _ (sym c.in-Some.ensures) in
    goes-on h found _ _ c.put_line-at.ensures.next c.put_line-at.ensures.puts
