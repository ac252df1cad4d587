use mathlib.Core.Path.{◌≡◌}
use mathlib.Core.Bool.{true, false}
use native.Mathlib.Omega.{arith}
use Rattle.rules.specs.Writing.{title_text}
use Rattle.rules.proofs.Writing.Lengths.{title-line, title-line-most}
use Rattle.writing.proofs.counts.count_title.Goals as goal

-- No title, no line; else eight bytes more than the title, and a newline.
pub returns-then-not-there : goal.returns-then-not-there
unfolding title_text
returns-then-not-there c = let e : c.args.there ≡ false = c.if-not-there.true in record { counts = rw e; few = omega arith }

pub returns : goal.returns
returns c =
    let title = c.args.title.now in
    let line = title-line title in
    let e : c.args.there ≡ true = c.if-not-there.false in
    record { counts = rw e (omega (arith, line)); few = omega (arith, line, title-line-most title (rw e at c.requires)) }
