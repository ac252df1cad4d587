use Prim.Native.Nat.{ℕ}
use mathlib.Core.List.{List}
use Rattle.rules.specs.Units.{sample_places}
use Rattle.rules.specs.Decimals.{decimals_of}
use Rattle.rules.specs.declared.TenMillionths.{TenMillionths}
use Rattle.rules.specs.Fields.{parted}
use Rattle.rules.specs.Writing.{row_text}
use Rattle.lettering.proofs.Pens.{adds-field, room-after-field}
use Rattle.lettering.proofs.Texts.{first_field}
use Rattle.writing.proofs.lines.put_row.Goals as goal

-- after red there is room for green and blue
-- Three numbers, each with the byte that ends it.

abbrev word : TenMillionths → List ℕ
word n = decimals_of sample_places n.0

pub put_number-requires : goal.put_number-requires
unfolding row_text parted
put_number-requires c = first_field (word c.args.row.red) 32 _ c.requires

pub put_number-requires-2 : goal.put_number-requires-2
unfolding row_text parted
put_number-requires-2 c =
    first_field (word c.args.row.green) 32 _ (room-after-field (word c.args.row.red) 32 _ c.put_number.ensures c.requires)

pub put_number-requires-3 : goal.put_number-requires-3
unfolding row_text parted
put_number-requires-3 c =
    let row = c.args.row in
    room-after-field (word row.green) 32 _ c.put_number-2.ensures (room-after-field (word row.red) 32 _ c.put_number.ensures c.requires)

pub returns : goal.returns
unfolding row_text parted
returns c =
    let row = c.args.row in
    adds-field (word row.red) 32 _ c.put_number.ensures (adds-field (word row.green) 32 _ c.put_number-2.ensures c.put_number-3.ensures)
