use Prim.Native.Nat.{ℕ}
use mathlib.Core.Path.{sym, ap, ◌∙◌}
use mathlib.Core.List.{◌++◌}
use Rattle.std.specs.Prelude.{Err}
use Rattle.std.proofs.lemmas.Result.{err_from_is_err_and}
use lib.ListN.{length, drop}
use Rattle.rules.specs.Reading.Lines.{lines_of}
use Rattle.rules.specs.Reading.{samples_of, table_after}
use Rattle.rules.proofs.Memory.{splice_front}
use Rattle.rules.proofs.Answers.{is-reads}
use Rattle.reading.specs.Tables.{Accepts}
use Rattle.reading.proofs.SecondPass.{accepted-length}
use Rattle.reading.proofs.read.Goals as goal

-- The first pass gives the rules' answer. Of a refusal the table is as it was; of an acceptance the second pass leaves the samples, three to a row, and later places as they were.
pub returns-in_err-description : goal.returns-in_err-description
unfolding table_after
returns-in_err-description c =
    let p = err_from_is_err_and c.from_residual.result c.from_residual.ensures.1 in
    let e = p.1 ∙ ap (λ r. Err r) p.2 ∙ c.in_err-description.ensures in
    is-reads e (sym (ap (table_after c.args.file.now c.args.table.now) (sym c.in_err-description.ensures)))

pub returns : goal.returns
unfolding table_after
returns c =
    let s = c.args.file.now in
    let old = c.args.table.now in
    let a : Accepts s (length old) = record { description = c.in_ok-description.description; accepted = sym c.in_ok-description.ensures } in
    is-reads c.in_ok-description.ensures
    (c.fill.ensures
    ∙ splice_front old (samples_of (lines_of s))
    ∙ ap (λ (n : ℕ). samples_of (lines_of s) ++ drop n old) (accepted-length a)
    ∙ sym (ap (table_after s old) a.accepted))
