use mathlib.Core.Path.{◌≡◌, sym, ap, ◌∙◌}
use borrow.Author.Tests.{lt-ltb, le-ltb}
use Rattle.std.proofs.lemmas.Result.{err_from_is_err_and}
use Rattle.std.specs.Prelude.{Some}
use Rattle.rules.specs.Units.{rows_of}
use Rattle.rules.specs.Descriptions.{rows}
use Rattle.rules.specs.Reading.Judge.{describe, first, given_or, no_size}
use Rattle.rules.specs.declared.Size.{Size}
use Rattle.reading.specs.declared.state.State.{State}
use Rattle.reading.specs.View.{view}
use Rattle.reading.proofs.Fits.{fit, given-there}
use Rattle.reading.proofs.Sized.{head-sized, rows-described}
use Rattle.reading.proofs.checks.by_rows.Goals as goal

-- A head with no fault has a size in range, so that its rows can be counted; they are those of the description.
-- the rows described are those of the size that is there
sized-rows : (st : State) (s : Size) → st.size ≡ Some s → rows (describe (view st)) ≡ rows_of s.kind s.n
sized-rows st s e = rows-described (view st) ∙ ap (λ o. rows_of (given_or no_size o).kind (given_or no_size o).n) e

pub returns-in_err-head_fault : goal.returns-in_err-head_fault
unfolding first
returns-in_err-head_fault c =
    let p = err_from_is_err_and c.from_residual.result c.from_residual.ensures.1 in
    rw (p.1, p.2, sym c.in_err-head_fault.ensures)

pub unwrap-size-requires : goal.unwrap-size-requires
unwrap-size-requires c = sym (given-there c.args.st.size) ∙ head-sized (fit c.args.st) c.args.places (sym c.in_ok-head_fault.ensures)

pub returns-then-st-count_rows : goal.returns-then-st-count_rows
unfolding first
returns-then-st-count_rows c =
    rw (sym c.in_ok-head_fault.ensures, lt-ltb _ _ (rw (c.count_rows.ensures ∙ sym (sized-rows c.args.st _ c.unwrap-size.ensures)) at c.if-st-count_rows.true))

pub returns-else-st-count_rows : goal.returns-else-st-count_rows
unfolding first
returns-else-st-count_rows c =
    rw (sym c.in_ok-head_fault.ensures, le-ltb _ _ (rw (c.count_rows.ensures ∙ sym (sized-rows c.args.st _ c.unwrap-size.ensures)) at c.if-st-count_rows.false))
