use Prim.Native.Nat.{◌+◌, ◌*◌, ◌^◌}
use mathlib.Core.Path.{ap, ◌∙◌}
use Rattle.numbers.specs.Cuts.{kept}
use Rattle.numbers.proofs.Kept.{kept_more, ten-more}
use Rattle.numbers.proofs.padded.Goals as goal

pub loop-preserved : goal.loop-preserved
loop-preserved c =
    let a = c.args in
    c.one_more-n.ensures ∙ ap (λ n. kept a.limit (n * 10 + 0)) c.loop.invariant ∙ kept_more a.limit (a.m * 10 ^ c.loop.counter) 0 ∙ ap (kept a.limit) (ten-more a.m c.loop.counter)
