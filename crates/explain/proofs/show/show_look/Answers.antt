use Rattle.explain.proofs.Spanning.{in-range}
use Rattle.explain.proofs.show.show_look.Goals as goal

-- A table that could have been read has an N in range.
pub write_size-requires : goal.write_size-requires
write_size-requires c = in-range c.requires
