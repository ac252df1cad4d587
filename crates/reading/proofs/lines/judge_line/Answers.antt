use Prim.Native.Nat.{ℕ}
use mathlib.Core.Path.{◌≡◌, sym, ap, ◌∙◌}
use mathlib.Core.List.{List}
use Rattle.std.proofs.lemmas.Result.{err_from_is_err_and}
use Rattle.rules.specs.Reading.Contents.{content_by, content_of, form_of}
use Rattle.rules.specs.Reading.Judge.{Fault, State, go, judge, order_fault, take_in, unless}
use Rattle.rules.specs.declared.Form.{Form}
use Rattle.reading.specs.View.{view}
use Rattle.reading.proofs.Fits.{fit}
use Rattle.reading.proofs.Welcomed.{short-line, welcomed}
use Rattle.reading.proofs.lines.judge_line.Goals as goal
use Rattle.rules.specs.Results.{Content}

-- The checks in the judge's order: the first fault is the verdict, and a line with none adds its item, which the state can take in.
-- the fault of a line's place, and what it says, by the form that was found
place-fault : {f : Form} (l : List ℕ) (places : ℕ) (st : State) {x : Fault} → x ≡ order_fault places st f → f ≡ form_of l → order_fault places st (form_of l) ≡ x
place-fault l places st e h = sym (e ∙ ap (order_fault places st) h)

said : {f : Form} (l : List ℕ) (place : ℕ) {x : Content} → x ≡ content_by f place l → f ≡ form_of l → content_of place l ≡ x
said l place e h = sym (e ∙ ap (λ (f : Form). content_by f place l) h)

pub returns-in_err-byte_fault : goal.returns-in_err-byte_fault
unfolding judge unless
returns-in_err-byte_fault c =
    let p = err_from_is_err_and c.from_residual.result c.from_residual.ensures.1 in
    rw (p.1, p.2, sym c.in_err-byte_fault.ensures)

pub returns-in_err-order_fault : goal.returns-in_err-order_fault
unfolding judge unless
returns-in_err-order_fault c =
    let p = err_from_is_err_and c.from_residual-in_err-order_fault.result c.from_residual-in_err-order_fault.ensures.1 in
    rw (p.1, p.2, sym c.in_ok-byte_fault.ensures, place-fault c.args.l.now c.args.places (view c.args.st) c.in_err-order_fault.ensures c.form_of-form.ensures)

pub content_by-requires : goal.content_by-requires
content_by-requires c = (short-line _ (sym c.in_ok-byte_fault.ensures), c.requires)

pub with_item-requires : goal.with_item-requires
with_item-requires c =
    let l = c.args.l.now in
    welcomed c.args.places c.args.place l _ (sym c.in_ok-byte_fault.ensures) (place-fault l c.args.places (view c.args.st) c.in_ok-order_fault.ensures c.form_of-form.ensures)
    (said l c.args.place c.in_ok-item.ensures c.form_of-form.ensures) (fit c.args.st)

pub returns-in_err-item : goal.returns-in_err-item
unfolding judge unless take_in
returns-in_err-item c =
    let l = c.args.l.now in
    let p = err_from_is_err_and c.from_residual-in_err-item.result c.from_residual-in_err-item.ensures.1 in
    rw (p.1, p.2, sym c.in_ok-byte_fault.ensures, place-fault l c.args.places (view c.args.st) c.in_ok-order_fault.ensures c.form_of-form.ensures, said l c.args.place c.in_err-item.ensures c.form_of-form.ensures)

pub returns : goal.returns
unfolding judge unless take_in
returns c =
    let l = c.args.l.now in
    rw (sym c.in_ok-byte_fault.ensures, place-fault l c.args.places (view c.args.st) c.in_ok-order_fault.ensures c.form_of-form.ensures, said l c.args.place c.in_ok-item.ensures c.form_of-form.ensures)
    (ap go c.with_item.ensures)
