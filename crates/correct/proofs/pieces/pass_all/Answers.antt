-- What became of the piece is truly told.
use mathlib.Core.Path.{◌≡◌, sym, subst, ◌∙◌}
use Rattle.std.specs.Prelude.{Err}
use Rattle.std.proofs.Common.{rules}
use Rattle.correct.specs.Pieces.{TrulyTold}
use Rattle.correct.proofs.Telling.{goes-truly}
use Rattle.correct.proofs.pieces.pass_all.Goals as goal

pub returns-in_err-pass_piece : goal.returns-in_err-pass_piece
returns-in_err-pass_piece c =
    let scales = c.args.job.scales in
    let same : c.from_residual.result ≡ Err c.in_err-pass_piece.field-0.0 = search rules in
    subst (TrulyTold scales.raw.depth.greatest) (c.in_err-pass_piece.was ∙ sym same) (goes-truly scales (c.pass_piece.ensures c.requires.readable.0 c.requires.readable.1))
