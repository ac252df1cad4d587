use mathlib.Core.Path.{ap, ◌∙◌}
use native.Mathlib.Omega.{arith}
use Rattle.writing.proofs.Lengths.{bounds_length, head-length}
use Rattle.writing.proofs.counts.count_head.Goals as goal

-- Each of the four lines by itself; they are at most 251, 18, 77 and 77 bytes.
pub returns-clause-counts : goal.returns-clause-counts
returns-clause-counts c =
    let a = c.args in
    let lower = c.count_bounds-lower.ensures.counts ∙ ap bounds_length c.lowers.ensures in
    let upper = c.count_bounds-upper.ensures.counts ∙ ap bounds_length c.uppers.ensures in
    omega (arith, c.count_title-titled.ensures.counts, c.count_size-sized.ensures.counts, lower, upper, head-length a.d a.title.now)
