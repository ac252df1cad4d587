-- The checks run 24, 20, and 23 at every depth.
use mathlib.Core.Path.{sym, ap, ◌∙◌}
use Rattle.invert.proofs.Saying.{as-said, beyond-24-cube, beyond-24, beyond-20, beyond-23}
use Rattle.invert.proofs.answers.beyond_said.Goals as goal

pub returns-in_default : goal.returns-in_default
returns-in_default c = λ corrected aim h. ap as-said c.untried.ensures ∙ beyond-24-cube _ _ _ corrected aim h c.in_default.is

pub returns-then-not-could_be_read : goal.returns-then-not-could_be_read
returns-then-not-could_be_read c = λ corrected aim h. ap as-said c.untried-then-not-could_be_read.ensures ∙ beyond-24 _ _ _ corrected aim h (sym c.could_be_read.ensures ∙ c.if-not-could_be_read.true)

pub returns-in-Some : goal.returns-in-Some
returns-in-Some c = λ corrected aim h.
    ap as-said c.untried-in-Some.ensures ∙ beyond-23 _ _ _ corrected aim h c.in-OneD.is (sym c.could_be_read.ensures ∙ c.if-not-could_be_read.false) _ (sym c.of.ensures ∙ c.in-Some.is)

pub returns-in-None : goal.returns-in-None
returns-in-None c = λ corrected aim h.
    ap as-said c.untried-in-None.ensures ∙ beyond-20 _ _ _ corrected aim h c.in-OneD.is (sym c.could_be_read.ensures ∙ c.if-not-could_be_read.false) (sym c.of.ensures ∙ c.in-None.is)
