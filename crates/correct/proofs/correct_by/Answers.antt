-- A table that was loaded could be read.
use Rattle.correct.proofs.Loading.{loaded-could}
use Rattle.correct.proofs.correct_by.Goals as goal

pub invariant_of-table : goal.invariant_of-table
invariant_of-table c = record { was_read = loaded-could c.load_argument.new.file c.args.places.now c.in-Ok.loaded.description c.in-Ok.loaded.bytes c.load_argument.new.table c.in-Ok.ensures }
