use borrow.Author.Rules.{rules}
use Rattle.rules.specs.Reporting.{answer_text}
use Rattle.lettering.proofs.Pens.{adds-both, room-between, room-last}
use Rattle.lettering.proofs.Texts.{first-room}
use Rattle.reporting.proofs.put_accepted.Goals as goal

-- The first line, the domains' lines and the last line.
pub put_cube-requires : goal.put_cube-requires
unfolding answer_text
put_cube-requires c = record { n_value = c.requires.tellable.range; room = first-room _ _ c.requires.room }

pub put_domains-requires : goal.put_domains-requires
unfolding answer_text
put_domains-requires c = room-between _ _ c.put_cube.ensures c.requires.room

pub put_title-requires : goal.put_title-requires
unfolding answer_text
put_title-requires c =
    record { title_inside = c.requires.tellable.title; room = room-last _ _ c.put_domains.ensures c.put_cube.ensures c.requires.room }

pub returns : goal.returns
unfolding answer_text
returns c =
    let text = adds-both c.put_cube.ensures (adds-both c.put_domains.ensures c.put_title.ensures) in
    search (rules, text.puts, text.same_bytes)
