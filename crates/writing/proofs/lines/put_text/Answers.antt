use borrow.Author.Rules.{rules}
use Prim.Native.Nat.{◌*◌, ◌≤◌}
use lib.ListN.{length}
use Rattle.rules.specs.Descriptions.{rows}
use Rattle.rules.specs.Writing.{file_text}
use Rattle.rules.proofs.Sound.{sound-of}
use Rattle.lettering.proofs.Pens.{adds-both, room-after}
use Rattle.lettering.proofs.Texts.{first-room}
use Rattle.writing.proofs.LineTexts.{headed}
use Rattle.writing.proofs.lines.put_text.Goals as goal

-- The head, and the rows after it.
pub count_rows-requires : goal.count_rows-requires
count_rows-requires c = (headed _ _ _ c.requires.table_value c.requires.title_value).range

pub put_head-requires : goal.put_head-requires
unfolding file_text
put_head-requires c = record { headed = headed _ _ _ c.requires.table_value c.requires.title_value; room = first-room _ _ c.requires.room }

pub put_rows-requires : goal.put_rows-requires
unfolding file_text
put_rows-requires c =
    let long : 3 * rows c.args.d ≤ length c.args.table.now = (sound-of _ _ c.requires.table_value).long in
    rw c.count_rows.ensures (record { rows_in_bounds = long; room = room-after _ c.put_head.ensures c.requires.room })

pub returns : goal.returns
unfolding file_text
returns c =
    let text = adds-both c.put_head.ensures (rw c.count_rows.ensures at c.put_rows.ensures) in
    search (rules, text.puts, text.same_bytes)
