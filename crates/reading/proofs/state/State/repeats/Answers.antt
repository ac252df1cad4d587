use mathlib.Core.Path.{sym, ◌∙◌}
use Rattle.rules.specs.Reading.Judge.{repeats}
use Rattle.reading.proofs.Fits.{given-there}
use Rattle.reading.proofs.state.State.repeats.Goals as goal

pub returns-in-ATitle : goal.returns-in-ATitle
unfolding repeats
returns-in-ATitle c = rw c.in-ATitle.is (c.is_some.ensures ∙ sym (given-there c.args.self.title))

pub returns-in-ALower : goal.returns-in-ALower
unfolding repeats
returns-in-ALower c = rw c.in-ALower.is (c.is_some-in-ALower.ensures ∙ sym (given-there c.args.self.lower))

pub returns-in-AnUpper : goal.returns-in-AnUpper
unfolding repeats
returns-in-AnUpper c = rw c.in-AnUpper.is (c.is_some-in-AnUpper.ensures ∙ sym (given-there c.args.self.upper))

pub returns-in-ASize : goal.returns-in-ASize
unfolding repeats
returns-in-ASize c = rw c.in-ASize.is (c.is_some-in-ASize.ensures ∙ sym (given-there c.args.self.size))
