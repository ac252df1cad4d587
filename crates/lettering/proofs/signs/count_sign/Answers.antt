use mathlib.Core.Path.{sym, ap}
use lib.ListN.{length}
use Rattle.lettering.proofs.Signed.{sign_below, sign-other}
use borrow.Author.Rules.{rules}
use Rattle.lettering.proofs.signs.count_sign.Goals as goal

-- Below 0 the sign is one byte; else there is none.
pub returns-then-number-lt0 : goal.returns-then-number-lt0
returns-then-number-lt0 c = sym (ap length (sign_below _ (search rules) c.if-number-lt0.true))

pub returns : goal.returns
returns c = sym (ap length (sign-other _ (search rules) c.if-number-lt0.false))
