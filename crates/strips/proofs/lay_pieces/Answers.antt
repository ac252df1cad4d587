use mathlib.Core.Path.{◌∙◌}
use native.Mathlib.Omega.{arith}
use borrow.Author.Rules.{rules}
use mir.Syntax.{w64}
use mir.Val.{SFits}
use mir.ValLaws.{to_z-of_z}
use Rattle.lanes.proofs.Stored.{one-stored}
use Rattle.strips.proofs.lay_pieces.Goals as goal

pub loop-i-preserved : goal.loop-i-preserved
loop-i-preserved c =
    let piece = c.piece_at-piece.ensures in
    let fs : SFits w64 c.piece_at-piece.result.slope.0 = search rules in
    let fb : SFits w64 c.piece_at-piece.result.base.0 = search rules in (
      one-stored c.loop-i.invariant.0 (omega (arith, c.loop-i-test.true, c.requires.cells_in_bounds)) (to_z-of_z w64 _ fs ∙ piece.slope_is),
      one-stored c.loop-i.invariant.1 (omega (arith, c.loop-i-test.true, c.requires.cells_in_bounds_2)) (to_z-of_z w64 _ fb ∙ piece.base_is),
    )
