use mathlib.Core.Path.{sym, ◌∙◌}
use borrow.Author.Tests.{not-false}
use Rattle.desk.proofs.Kept.{no-digits, too-great, at_most}
use Rattle.desk.proofs.arguments.number_in.Goals as goal

pub returns-then-not-is_digits : goal.returns-then-not-is_digits
returns-then-not-is_digits c = sym (no-digits _ _ (sym c.before.is_digits.ensures ∙ c.if-not-is_digits.true))

pub returns-then-n-most : goal.returns-then-n-most
returns-then-n-most c =
    let s = c.before in
    let d = s.before.before in
    sym (too-great _ _ (sym d.is_digits.ensures ∙ not-false _ s.before.if-not-is_digits.false-raw) _ s.spelt-n.ensures c.if-n-most.true)

pub returns : goal.returns
returns c =
    let s = c.before in
    let d = s.before.before in
    sym (at_most _ _ (sym d.is_digits.ensures ∙ not-false _ s.before.if-not-is_digits.false-raw) _ s.spelt-n.ensures c.if-n-most.false)
