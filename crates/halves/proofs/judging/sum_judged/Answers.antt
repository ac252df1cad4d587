use Prim.Native.Nat.{◌+◌}
use mathlib.Core.Path.{sym, ap₂, ◌∙◌}
use Rattle.halves.proofs.Listing.{sum-fit, sum-wrong}
use Rattle.halves.proofs.judging.sum_judged.Goals as goal

-- Four parts, each at most D + 1, can be added.
pub returns-then-first-second : goal.returns-then-first-second
returns-then-first-second c =
    let added = ap₂ ◌+◌ (ap₂ ◌+◌ (ap₂ ◌+◌ c.part_of-first.ensures c.part_of-second.ensures) c.part_of-third.ensures) c.part_of-fourth.ensures in
    sym (sum-fit c.args.den c.args.four c.requires.not_negative (sym added ∙ c.if-first-second.true))

pub returns : goal.returns
returns c =
    let added = ap₂ ◌+◌ (ap₂ ◌+◌ (ap₂ ◌+◌ c.part_of-first.ensures c.part_of-second.ensures) c.part_of-third.ensures) c.part_of-fourth.ensures in
    sym (sum-wrong c.args.den c.args.four c.requires.not_negative (λ e. c.if-first-second.false (added ∙ e)))
