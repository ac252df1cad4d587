use mathlib.Core.Path.{◌∙◌}
use Rattle.rules.specs.Descriptions.{rows, span}
use Rattle.rules.specs.Looking.Interpolation.{den_of}
use Rattle.rules.proofs.Sound.{sound-range, sound-rows}
use Rattle.rules.proofs.Looking.Spans.{span-most}
use Rattle.colour.proofs.Plans.{sound, den-most}
use Rattle.halves.proofs.Listing.{four_same}
use native.Mathlib.Omega.{arith}
use Rattle.halves.proofs.judging.colour_judged.Goals as goal

-- The two that carry nothing in 1D are fit, for every table has a row.
pub count_rows-count-requires : goal.count_rows-count-requires
count_rows-count-requires c = sound-range c.args.d c.requires.0 (sound c.args.d c.requires)

pub four_judged-requires : goal.four_judged-requires
four_judged-requires c =
    let den = c.before in
    let s = den.before.before in
    rw den.den_of.ensures (den-most s.args.m (span s.args.d s.args.c) (omega (arith, s.ranges.m)) (span-most s.args.d (sound s.args.d s.requires) s.args.c))

pub returns : goal.returns
returns c =
    let four = c.before in
    let den = four.before in
    let count = den.before in
    let s = count.before in
    let a = s.args in
    c.four_judged.ensures
    ∙ rw (count.count_rows-count.ensures, den.den_of.ensures, four.four_of.ensures)
    (four_same (rows a.d) (den_of a.d a.m a.c) (sound-rows a.d s.requires.0 (sound s.args.d s.requires)) a.d.kind a.c a.shares)
