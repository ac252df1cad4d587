use mir.Syntax.{w64}
use borrow.Author.Rules.{rules}
use mir.Val.{SFits}
use mir.ValLaws.{to_z-of_z}
use Rattle.rules.specs.Descriptions.{ordered}
use Rattle.judge.proofs.ordered.Goals as goal

-- The test is the definition's, of the two numbers that the bounds hold.
pub returns : goal.returns
unfolding ordered
returns c =
    let dom = c.args.dom in
    let lower : SFits w64 dom.lower.0 = search rules in
    let upper : SFits w64 dom.upper.0 = search rules in
    rw (to_z-of_z w64 dom.lower.0 lower, to_z-of_z w64 dom.upper.0 upper)
