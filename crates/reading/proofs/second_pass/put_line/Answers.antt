use Prim.Native.Nat.{◌+◌, ◌≤◌}
use mathlib.Core.Path.{◌≡◌, sym, ap, ◌∙◌}
use native.Mathlib.Omega.{arith}
use borrow.Author.Rules.{rules}
use mir.Syntax.{w64}
use mir.Val.{of_z, to_z}
use lib.ListN.{length, length-set}
use Rattle.rules.proofs.Memory.{splice-none, three-written}
use Rattle.reading.proofs.LineSamples.{no-samples, row-samples, wrong-samples}
use Rattle.reading.proofs.second_pass.put_line.Goals as goal

-- A line that is no data line has no samples, and the table stays as it is; a row's three numbers are three stores, one after the other.
pub returns-in_default : goal.returns-in_default
returns-in_default c =
    let none = no-samples c.requires.line_keeps (λ e. c.in_default.not-Data (c.form_of.ensures ∙ e)) in
    rw none record { next = omega arith; puts = sym (splice-none c.args.table.now c.args.at) }

pub returns-in_default-row_on-clause-next : goal.returns-in_default-row_on-clause-next
returns-in_default-row_on-clause-next c =
    rw (wrong-samples c.args.l.now _ (sym c.in-Data.ensures) c.row_on.ensures _ c.in_default-row_on.is) (omega arith)

pub returns-in_default-row_on-clause-puts : goal.returns-in_default-row_on-clause-puts
returns-in_default-row_on-clause-puts c =
    rw (wrong-samples c.args.l.now _ (sym c.in-Data.ensures) c.row_on.ensures _ c.in_default-row_on.is) (sym (splice-none c.args.table.now c.args.at))

pub bounds-table-at : goal.bounds-table-at
bounds-table-at c = omega (arith, ap length (row-samples c.args.l.now _ (sym c.in-Data.ensures) c.row_on.ensures _ c.in-Ok.is))

pub bounds-table-at-2 : goal.bounds-table-at-2
bounds-table-at-2 c = simp length-set (omega (arith, ap length (row-samples c.args.l.now _ (sym c.in-Data.ensures) c.row_on.ensures _ c.in-Ok.is)))

pub bounds-table-at-3 : goal.bounds-table-at-3
bounds-table-at-3 c = simp length-set (omega (arith, ap length (row-samples c.args.l.now _ (sym c.in-Data.ensures) c.row_on.ensures _ c.in-Ok.is)))

pub returns-clause-next : goal.returns-clause-next
returns-clause-next c = rw (row-samples c.args.l.now _ (sym c.in-Data.ensures) c.row_on.ensures _ c.in-Ok.is)

pub returns-clause-puts : goal.returns-clause-puts
returns-clause-puts c =
    let row = c.in-Ok.row in
    let samples = row-samples c.args.l.now _ (sym c.in-Data.ensures) c.row_on.ensures _ c.in-Ok.is in
    let room : c.args.at + 3 ≤ length c.args.table.now = omega (arith, ap length samples) in
    let red : to_z w64 (of_z w64 row.red.0) ≡ row.red.0 = search rules in
    let green : to_z w64 (of_z w64 row.green.0) ≡ row.green.0 = search rules in
    let blue : to_z w64 (of_z w64 row.blue.0) ≡ row.blue.0 = search rules in
    rw (samples, red, green, blue) (three-written c.args.table.now c.args.at row.red.0 row.green.0 row.blue.0 room)
