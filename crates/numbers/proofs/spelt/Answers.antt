use Prim.Native.Nat.{◌+◌}
use mathlib.Core.Path.{sym, ap, ◌∙◌}
use native.Mathlib.Omega.{arith}
use lib.ListN.{drop}
use Rattle.rules.specs.Reading.Numerals.{spell}
use Rattle.numbers.specs.Cuts.{kept}
use Rattle.numbers.proofs.Digits.{spell-end, spell-step}
use Rattle.numbers.proofs.Kept.{kept-spell}
use Rattle.numbers.proofs.spelt.Goals as goal

pub loop-b-preserved : goal.loop-b-preserved
loop-b-preserved c =
    let a = c.args in
    let l = c.loop-b in (
      omega (arith, c.one_more-n.ensures),
      l.invariant.1 ∙ ap (kept a.limit) (spell-step l.n a.s.now l.b-index (omega arith)) ∙ sym (kept-spell a.limit _ _)
          ∙ ap (λ n. kept a.limit (spell n (drop (l.b-index + 1) a.s.now))) (sym c.one_more-n.ensures),
    )

pub returns : goal.returns
returns c =
    let l = c.loop-b in
    let a = c.args in
    omega (arith, l.invariant.1 ∙ ap (kept a.limit) (spell-end l.n a.s.now l.b-index (omega arith)))
