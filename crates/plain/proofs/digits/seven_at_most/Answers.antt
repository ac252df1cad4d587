use mathlib.Core.Path.{sym, ◌∙◌}
use native.Mathlib.Omega.{arith}
use Rattle.plain.proofs.Spelling.{four-and-more, four-read, spelt-less}
use Rattle.plain.proofs.digits.seven_at_most.Goals as goal

pub three_at_most-requires : goal.three_at_most-requires
three_at_most-requires c = (omega arith, omega (arith, c.four_spelt.ensures, spelt-less 0 0 4 _ (omega arith) (omega arith) (sym c.before.before.are_digits.ensures ∙ c.before.if-are_digits.true)))

pub returns-then-are_digits : goal.returns-then-are_digits
returns-then-are_digits c =
    let t = c.before.before in
    let a = t.before.before.before.before.before.before.before.args in
    four-and-more _ (four-read a.s.now a.from (omega arith)) (sym t.before.are_digits.ensures ∙ t.if-are_digits.true) c.before.four_spelt.ensures c.three_at_most.ensures
