use mathlib.Core.Path.{◌≡◌}
use Rattle.rules.specs.Reading.Lines.{bytes}
use Rattle.rules.specs.Reporting.{title_line}
use Rattle.reporting.proofs.Lines.{titled_line, titled, untitled}
use Rattle.reporting.proofs.put_title.Goals as goal

-- With a title its bytes stand in the input; without one the line is one text.
pub put_between-requires : goal.put_between-requires
unfolding bytes
put_between-requires c =
    let with-title : let a = c.args in title_line a.input.now a.title ≡ titled_line a.input.now a.title = titled _ _ c.if-title.true in
    rw with-title at c.requires.room

pub returns-then-title : goal.returns-then-title
unfolding bytes
returns-then-title c =
    let with-title : let a = c.args in title_line a.input.now a.title ≡ titled_line a.input.now a.title = titled _ _ c.if-title.true in
    rw with-title c.put_between.ensures

pub put-requires : goal.put-requires
unfolding bytes
put-requires c =
    let no-title : let a = c.args in title_line a.input.now a.title ≡ bytes "title\tno\n" = untitled _ _ c.if-title.false in
    rw no-title at c.requires.room

pub returns-else-title : goal.returns-else-title
unfolding bytes
returns-else-title c =
    let no-title : let a = c.args in title_line a.input.now a.title ≡ bytes "title\tno\n" = untitled _ _ c.if-title.false in
    rw no-title c.put.ensures
