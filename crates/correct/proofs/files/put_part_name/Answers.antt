use borrow.Author.Rules.{rules}
use Prim.Native.Nat.{ℕ, ◌/◌, ◌%◌}
use mathlib.Core.List.{List, [], ◌∷◌}
use Rattle.rules.specs.Decimals.{digit_byte}
use Rattle.rules.specs.Reading.Lines.{bytes}
use Rattle.lettering.proofs.Pens.{adds-both, room-after, room-between, room-last}
use Rattle.lettering.proofs.Texts.{first-room}
use Rattle.correct.specs.Parts.{part_name}
use Rattle.correct.proofs.files.put_part_name.Goals as goal

-- Four texts, one after another.

-- the two digits
abbrev digits : ℕ → List ℕ
digits number = digit_byte (number / 10) ∷ digit_byte (number % 10) ∷ []

pub put-requires : goal.put-requires
unfolding part_name bytes
put-requires c = first-room _ _ c.requires.room

pub put-requires-2 : goal.put-requires-2
unfolding part_name bytes
put-requires-2 c = room-between (bytes ".part-") (digits c.args.number) c.put.ensures c.requires.room

pub put_byte-requires : goal.put_byte-requires
unfolding part_name bytes
put_byte-requires c =
    first-room (_ ∷ []) _ (room-last (bytes ".part-") (digits c.args.number) c.put-2.ensures c.put.ensures c.requires.room)

pub put_byte-requires-2 : goal.put_byte-requires-2
unfolding part_name bytes
put_byte-requires-2 c =
    room-after _ c.put_byte.ensures (room-last (bytes ".part-") (digits c.args.number) c.put-2.ensures c.put.ensures c.requires.room)

pub returns : goal.returns
unfolding part_name bytes
returns c =
    let name = adds-both c.put.ensures (adds-both c.put-2.ensures (adds-both c.put_byte.ensures c.put_byte-2.ensures)) in
    search (rules, name.puts, name.same_bytes)
