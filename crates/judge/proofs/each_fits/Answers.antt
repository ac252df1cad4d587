use borrow.Author.Rules.{rules}
use lib.IntN.{pos}
use lib.ListN.{get_or}
use mir.Syntax.{w64}
use mir.Val.{SFits}
use mir.ValLaws.{to_z-of_z}
use Rattle.judge.proofs.Spans.{none_passed, one_more}
use Rattle.judge.proofs.each_fits.Goals as goal

pub loop-sample-init : goal.loop-sample-init
loop-sample-init c = none_passed c.args.samples.now

pub loop-sample-preserved : goal.loop-sample-preserved
loop-sample-preserved c =
    let xs = c.args.samples.now in
    let i = c.loop-sample.sample-index in
    let f : SFits w64 (get_or xs i (pos 0)) = search rules in
    rw (c.lesser-least.ensures, c.greater-greatest.ensures, to_z-of_z w64 (get_or xs i (pos 0)) f) (one_more xs i _ _ c.loop-sample-test.true c.loop-sample.invariant)
