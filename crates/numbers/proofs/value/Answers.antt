use Prim.Native.Nat.{◌-◌, ◌*◌, ◌^◌}
use mathlib.Core.Path.{ap, ap₂, ◌∙◌}
use mathlib.Core.List.{◌++◌}
use lib.ListN.{length}
use Rattle.rules.specs.Reading.Numerals.{spell}
use Rattle.numbers.specs.Cuts.{answer, cut_of, kept}
use Rattle.numbers.proofs.Exact.{exact}
use Rattle.scan.proofs.Runs.{part_to_end}
use Rattle.numbers.proofs.value.Goals as goal

pub returns : goal.returns
returns c =
    let g = c.args in
    let w = g.whole.now in
    let f = g.fraction.now in
    let limit = g.limit in
    let cut = c.cut_at-cut.result in
    let m = c.min-a.result in
    let n = c.min-b.result in
    c.conclude.ensures
    ∙ ap₂ (answer limit g.negative) (c.padded-quotient.ensures ∙ ap (λ k. kept limit (k * 10 ^ (cut - m - n))) c.spelt_both-front.ensures)
    (c.spelt_both-rest.ensures ∙ ap₂ (λ k l. kept limit (spell 0 (k ++ l))) (part_to_end w m) (part_to_end f n))
    ∙ exact g.places limit g.negative w f g.power.now c.requires g.down cut m n
    (c.cut_at-cut.ensures ∙ ap (cut_of (length w) g.places g.down) c.spelt-x.ensures) c.min-a.ensures c.min-b.ensures
