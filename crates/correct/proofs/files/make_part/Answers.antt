-- There is room for the name at every turn.
use native.Mathlib.Omega.{arith}
use Rattle.correct.proofs.PartNames.{part_length}
use Rattle.correct.proofs.files.make_part.Goals as goal

pub put_part_name-n-requires-clause-room : goal.put_part_name-n-requires-clause-room
put_part_name-n-requires-clause-room c = record { fits = omega (arith, part_length c.args.path.now c.loop-number.number) }

pub put_part_name-n-requires-2-clause-room : goal.put_part_name-n-requires-2-clause-room
put_part_name-n-requires-2-clause-room c = record { fits = omega (arith, part_length c.args.path.now 99) }
