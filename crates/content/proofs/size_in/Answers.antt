use mathlib.Core.Path.{sym, ◌∙◌}
use Rattle.content.proofs.Sizes.{in-range, no-digits, out_of_range}
use Rattle.content.proofs.size_in.Goals as goal

pub returns-then-not-is_digits : goal.returns-then-not-is_digits
returns-then-not-is_digits c = sym (no-digits _ _ (sym c.is_digits.ensures ∙ c.if-not-is_digits.true))

pub returns-then-not-in_range : goal.returns-then-not-in_range
returns-then-not-in_range c =
    sym (out_of_range _ _ (sym c.is_digits.ensures ∙ c.if-not-is_digits.false) _ c.spelt-n.ensures (sym c.in_range.ensures ∙ c.if-not-in_range.true))

pub returns : goal.returns
returns c =
    sym (in-range _ _ (sym c.is_digits.ensures ∙ c.if-not-is_digits.false) _ c.spelt-n.ensures (sym c.in_range.ensures ∙ c.if-not-in_range.false))
