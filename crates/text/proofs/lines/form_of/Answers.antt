use mathlib.Core.Path.{sym, ◌∙◌}
use native.Mathlib.Omega.{arith}
use borrow.Author.Tests.{eq-eqb, ne_eqb}
use Rattle.rules.specs.Reading.Contents.{form_of, word_form}
use Rattle.text.proofs.WordsFrom.{words-next, words-none}
use Rattle.text.proofs.FirstBytes.{data-first, empty-list, form-first}
use Rattle.text.proofs.lines.form_of.Goals as goal

-- Empty, a comment, by the first byte, or by the first word, which the part handed on is.
pub returns-then-l-eq0 : goal.returns-then-l-eq0
unfolding form_of
returns-then-l-eq0 c = rw (empty-list c.before.before.args.l.now c.if-l-eq0.true)

pub returns-then-l-eq35 : goal.returns-then-l-eq35
returns-then-l-eq35 c = rw (form-first _ c.before.before.if-l-eq0.false, eq-eqb _ 35 c.if-l-eq35.true)

pub returns-then-is_number_byte : goal.returns-then-is_number_byte
returns-then-is_number_byte c = sym (data-first _ c.before.before.before.before.before.if-l-eq0.false (sym c.before.is_number_byte.ensures ∙ c.if-is_number_byte.true))

pub returns-in_default : goal.returns-in_default
unfolding word_form
returns-in_default c =
    let w = c.before.before in
    rw (form-first _ w.before.before.before.before.before.before.if-l-eq0.false, ne_eqb _ 35 w.before.before.before.before.if-l-eq35.false, words-none _ 0 (sym w.next_word.ensures ∙ c.in_default.is))

pub slice_bounds-word_form-end : goal.slice_bounds-word_form-end
slice_bounds-word_form-end c = omega (arith, (words-next c.args.l.now 0 c.in-Some.word (omega arith) (sym c.in-Some.ensures)).inside)

pub returns : goal.returns
unfolding word_form
returns c =
    rw (form-first _ c.if-l-eq0.false, ne_eqb _ 35 c.if-l-eq35.false, (words-next c.args.l.now 0 c.in-Some.word (omega arith) (sym c.in-Some.ensures)).words) c.word_form.ensures
