use mathlib.Core.Path.{refl}
use Rattle.rules.specs.Reading.Judge.{add}
use Rattle.reading.proofs.state.State.with_upper.Goals as goal

-- The view with one more thing given is what the rules add.
pub returns : goal.returns
unfolding add
returns c = refl
