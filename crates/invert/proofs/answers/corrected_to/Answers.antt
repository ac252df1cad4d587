-- The look's own code, and 0 where there is no look.
use mathlib.Core.Path.{◌∙◌}
use Rattle.invert.proofs.Saying.{corrected-so, none-corrected}
use Rattle.invert.proofs.answers.corrected_to.Goals as goal

pub returns-in-Ok : goal.returns-in-Ok
returns-in-Ok c = c.code_in.ensures ∙ corrected-so c.look.ensures _ c.in-Ok.is

pub returns-in-Err : goal.returns-in-Err
returns-in-Err c = none-corrected c.look.ensures _ c.in-Err.is
