-- Where there is room, the buffers hold a piece.
use mathlib.Core.Path.{sym, ◌∙◌}
use Rattle.correct.proofs.Sizes.{room_for}
use Rattle.correct.proofs.correct.Goals as goal

pub invariant_of-space : goal.invariant_of-space
invariant_of-space c = record { holds_a_piece = room_for _ _ _ (sym c.has_room.ensures ∙ c.if-not-has_room.false) }
