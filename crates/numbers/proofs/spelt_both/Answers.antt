use mathlib.Core.Path.{sym, ap, ◌∙◌}
use Rattle.rules.specs.Reading.Numerals.{spell}
use Rattle.numbers.specs.Cuts.{kept}
use Rattle.rules.proofs.Reading.Numbers.{spell-append}
use Rattle.numbers.proofs.Kept.{kept-spell}
use Rattle.numbers.proofs.spelt_both.Goals as goal

pub returns : goal.returns
returns c =
    let g = c.before.before.before.before.args in
    let a = g.a.now in
    let b = g.b.now in
    c.spelt-2.ensures ∙ ap (λ m. kept g.limit (spell m b)) c.before.spelt.ensures ∙ kept-spell g.limit (spell 0 a) b ∙ ap (kept g.limit) (sym (spell-append 0 a b))
