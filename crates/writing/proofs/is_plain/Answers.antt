use mathlib.Core.Path.{◌≡◌, sym, ◌∙◌}
use mathlib.Core.Bool.{true, false}
use Rattle.rules.specs.Reading.Lines.{every, permitted}
use Rattle.writing.proofs.Titles.{every-title-byte}
use Rattle.writing.proofs.is_plain.Goals as goal

-- A byte is of a title exactly if it is permitted in a line and in a title.
pub returns-then-every : goal.returns-then-every
returns-then-every c =
    let all : every permitted c.args.title.now ≡ true = sym c.every.ensures ∙ c.if-every.true in
    rw (every-title-byte c.args.title.now, all) c.every-then-every.ensures

pub returns-else-every : goal.returns-else-every
returns-else-every c =
    let not-all : every permitted c.args.title.now ≡ false = sym c.every.ensures ∙ c.if-every.false in
    rw (every-title-byte c.args.title.now, not-all) c.if-every.false
