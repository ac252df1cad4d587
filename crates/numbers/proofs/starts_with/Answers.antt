use mathlib.Core.Path.{ap, ◌∙◌}
use lib.Dec.{eqb}
use Rattle.std.specs.Option.{option_eq}
use Rattle.std.specs.Prelude.{Some}
use Rattle.numbers.proofs.Words.{first-is}
use Rattle.numbers.proofs.starts_with.Goals as goal

pub returns : goal.returns
returns c =
    let a = c.args in
    c.eq.ensures ∙ ap (λ o. option_eq eqb o (Some a.b)) (c.copied.ensures ∙ c.first.ensures.value) ∙ first-is a.w.now a.b
