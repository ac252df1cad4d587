use mathlib.Core.Path.{sym, subst}
use Rattle.desk.specs.Arguments.{UpTo}
use Rattle.desk.proofs.Kept.{up_to}
use Rattle.desk.proofs.arguments.number_at.Goals as goal

pub returns : goal.returns
returns c = subst (UpTo _) (sym c.number_in.ensures) (up_to _ _)
