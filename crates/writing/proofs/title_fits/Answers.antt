use borrow.Author.Tests.{le-leb, lt-leb}
use Rattle.rules.specs.Writing.{title_fits}
use Rattle.writing.proofs.title_fits.Goals as goal

-- Without the mark nothing is judged; else the length, then the bytes.
pub returns-then-not-there : goal.returns-then-not-there
unfolding title_fits
returns-then-not-there c = rw c.if-not-there.true

pub returns-then-title-le-LONGEST_TITLE : goal.returns-then-title-le-LONGEST_TITLE
unfolding title_fits
returns-then-title-le-LONGEST_TITLE c =
    rw (c.if-not-there.false, le-leb _ _ c.if-title-le-LONGEST_TITLE.true) c.is_plain.ensures

pub returns-else-title-le-LONGEST_TITLE : goal.returns-else-title-le-LONGEST_TITLE
unfolding title_fits
returns-else-title-le-LONGEST_TITLE c =
    rw (c.if-not-there.false, lt-leb _ _ c.if-title-le-LONGEST_TITLE.false)
