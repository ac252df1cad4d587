use Prim.Native.Nat.{ℕ}
use mathlib.Core.Path.{ap, ap₂, ◌∙◌}
use Rattle.rules.specs.declared.Form.{Form}
use Rattle.pointing.specs.Pointing.{word_spot, first_wrong, parameter_spot, aimed_in}
use Rattle.pointing.specs.declared.words.Wanted.TheVariants.{BoundValue}
use Rattle.pointing.proofs.Inside.{end-inside}
use native.Mathlib.Omega.{arith}
use Rattle.pointing.proofs.aims.aimed_in.Goals as goal

pub keyed_spot-requires-clause-from_in_bounds : goal.keyed_spot-requires-clause-from_in_bounds
keyed_spot-requires-clause-from_in_bounds c = rw c.first_end.ensures (end-inside c.args.l.now 0 (omega arith))

pub word_from-requires-in-SecondWord : goal.word_from-requires-in-SecondWord
word_from-requires-in-SecondWord c = rw c.first_end-in-SecondWord.ensures (end-inside c.args.l.now 0 (omega arith))

pub first_wrong-requires-clause-from_in_bounds : goal.first_wrong-requires-clause-from_in_bounds
first_wrong-requires-clause-from_in_bounds c = rw c.first_end-in-BoundValue.ensures (end-inside c.args.l.now 0 (omega arith))

pub returns-in-Byte : goal.returns-in-Byte
unfolding aimed_in
returns-in-Byte c = rw c.in-Byte.is c.byte_spot.ensures

pub returns-in-FirstWord : goal.returns-in-FirstWord
unfolding aimed_in
returns-in-FirstWord c = rw c.in-FirstWord.is c.word_from.ensures

pub returns-in-Parameters : goal.returns-in-Parameters
unfolding aimed_in
returns-in-Parameters c =
    rw c.in-Parameters.is (c.keyed_spot.ensures ∙ ap₂ (λ (f : Form) (p : ℕ). parameter_spot f c.args.l.now p) c.form_of.ensures c.first_end.ensures)

pub returns-in-SecondWord : goal.returns-in-SecondWord
unfolding aimed_in
returns-in-SecondWord c =
    rw c.in-SecondWord.is (c.word_from-in-SecondWord.ensures ∙ ap (λ (p : ℕ). word_spot c.args.l.now p) c.first_end-in-SecondWord.ensures)

pub returns-in-BoundValue : goal.returns-in-BoundValue
unfolding aimed_in
returns-in-BoundValue c =
    rw c.in-BoundValue.is (c.first_wrong.ensures ∙ ap (λ (p : ℕ). first_wrong BoundValue 3 c.args.l.now p) c.first_end-in-BoundValue.ensures)

pub returns-in-SampleForm : goal.returns-in-SampleForm
unfolding aimed_in
returns-in-SampleForm c = rw c.in-SampleForm.is c.first_wrong-in-SampleForm.ensures

pub returns-in-SampleValue : goal.returns-in-SampleValue
unfolding aimed_in
returns-in-SampleValue c = rw c.in-SampleValue.is c.first_wrong-in-SampleValue.ensures

pub returns-in-End : goal.returns-in-End
unfolding aimed_in
returns-in-End c = rw c.in-End.is c.rest_from.ensures

pub returns-in-RowOrEnd : goal.returns-in-RowOrEnd
unfolding aimed_in
returns-in-RowOrEnd c = rw c.in-RowOrEnd.is c.row_spot.ensures
