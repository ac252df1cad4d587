-- What is read is a piece at most.
use Rattle.std.proofs.Common.{◌≤◌, ◌*◌, ◌++◌, length, take, drop, arith}
use mathlib.Core.Path.{subst}
use mathlib.Core.Logic.{inr}
use lib.ListN.{length-take}
use Rattle.correct.proofs.pieces.pass_piece.Goals as goal

pub returns : goal.returns
returns c = λ d readable.
    let a = c.args in
    let got = c.in-Ok.got in
    let asked = a.want * c.pixel_bytes-size.result in
    let read = take got (c.fill.new.space ++ drop asked a.space.now.bytes.now) in
    let few : length read ≤ asked = omega (arith, length-take got (c.fill.new.space ++ drop asked a.space.now.bytes.now), c.in-Ok.ensures, c.fill.auto.space, length-take asked a.space.now.bytes.now) in
    inr
    (record {
      input = read;
      piece = c.correct_piece-piece.result;
      bytes = c.correct_piece-piece.new.bytes;
      within_piece = subst (λ size. length read ≤ a.want * size) c.pixel_bytes-size.ensures few;
      corrects = c.correct_piece-piece.ensures.corrects d readable;
      told = c.passed_of.ensures;
    })
