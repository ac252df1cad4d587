use Rattle.rules.specs.Writing.{head_text}
use Rattle.lettering.proofs.Pens.{adds-both, room-between, room-last}
use Rattle.lettering.proofs.Texts.{first-room}
use Rattle.writing.proofs.lines.put_head.Goals as goal

-- The title, the size, and the domain.
pub put_title-requires : goal.put_title-requires
unfolding head_text
put_title-requires c = first-room _ _ c.requires.room

pub put_size-requires : goal.put_size-requires
unfolding head_text
put_size-requires c =
    room-between _ _ c.put_title.ensures c.requires.room

pub put_domain-requires : goal.put_domain-requires
unfolding head_text
put_domain-requires c =
    let head = c.requires.headed in
    record { bounds_fit = (head.lower, head.upper); room = room-last _ _ c.put_size.ensures c.put_title.ensures c.requires.room }

pub returns : goal.returns
unfolding head_text
returns c =
    adds-both c.put_title.ensures (adds-both c.put_size.ensures c.put_domain.ensures)
