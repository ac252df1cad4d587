use borrow.Author.Rules.{rules}
use lib.Dec.{lit≤}
use mir.Syntax.{w64}
use mir.Val.{Fits, SFits, of_z}
use Rattle.std.proofs.Math.Facts.{of_z-to_z, Fits-or, Fits-of_z}
use lib.Bits.{bit_or}
use lib.IntN.{pos}
use lib.ListN.{get_or}
use Rattle.judge.proofs.Together.{together-more, together-fit}
use Rattle.judge.proofs.all_small.Goals as goal

pub loop-s-preserved : goal.loop-s-preserved
loop-s-preserved c =
    let xs = c.args.samples.now in
    let n = c.loop-s.any-bits in
    let h : Fits w64 n = c.loop-s.auto.any in
    let f : SFits w64 (get_or xs c.loop-s.s-index (pos 0)) = search rules in
    let g : Fits w64 (bit_or n (of_z w64 (get_or xs c.loop-s.s-index (pos 0)))) = Fits-or c.loop-s.auto.any (Fits-of_z f) in
    rw of_z-to_z (together-more xs c.loop-s.s-index n f (rw of_z-to_z at c.loop-s.invariant))

pub returns-then-any-ge0 : goal.returns-then-any-ge0
returns-then-any-ge0 c e =
    let h : Fits w64 c.loop-s.any-bits = c.loop-s.auto.any in
    together-fit c.args.samples.now c.loop-s.s-index c.loop-s.any-bits _ c.loop-s-test.false (lit≤ tt) (rw of_z-to_z at c.loop-s.invariant) c.if-any-ge0.true e
