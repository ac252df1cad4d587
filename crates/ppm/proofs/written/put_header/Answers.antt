use borrow.Author.Rules.{rules}
use mathlib.Core.List.{[], ◌∷◌}
use Rattle.rules.specs.Decimals.{decimal}
use Rattle.lettering.proofs.Pens.{adds-both, adds-field, room-next-field, room-last-field, room-after-field}
use Rattle.lettering.proofs.Texts.{first-room, first_field}
use Rattle.ppm.specs.Written.{header_text}
use Rattle.ppm.proofs.written.put_header.Goals as goal

-- P6, and three numbers, each with the byte that ends it.
pub put-requires : goal.put-requires
unfolding header_text
put-requires c = first-room (80 ∷ 54 ∷ 10 ∷ []) _ c.requires

pub put_count-requires : goal.put_count-requires
unfolding header_text
put_count-requires c = room-next-field (decimal c.args.width) 32 _ c.put.ensures c.requires

pub put_count-requires-2 : goal.put_count-requires-2
unfolding header_text
put_count-requires-2 c =
    first_field (decimal c.args.height) 10 _ (room-last-field (decimal c.args.width) 32 _ c.put_count.ensures c.put.ensures c.requires)

pub put_count-requires-3 : goal.put_count-requires-3
unfolding header_text
put_count-requires-3 c =
    room-after-field (decimal c.args.height) 10 _ c.put_count-2.ensures
    (room-last-field (decimal c.args.width) 32 _ c.put_count.ensures c.put.ensures c.requires)

pub returns : goal.returns
unfolding header_text
returns c =
    let a = c.args in
    let text = adds-both c.put.ensures (adds-field (decimal a.width) 32 _ c.put_count.ensures (adds-field (decimal a.height) 10 _ c.put_count-2.ensures c.put_count-3.ensures)) in
    search (rules, text.puts, text.same_bytes)
