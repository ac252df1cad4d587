use Prim.Native.Nat.{◌+◌, ◌<◌}
use mathlib.Core.Path.{◌≡◌, refl, ap, subst, ◌∙◌}
use native.Mathlib.Omega.{arith}
use Rattle.rules.specs.Answers.{codes_of}
use Rattle.rules.specs.Memory.{spliced}
use Rattle.picture.specs.Blocks.{FilledTo}
use Rattle.picture.proofs.Blocking.{whole_there, spot-placed, spot-coded, start-near, one-passed}
use Rattle.picture.proofs.cubes.correct_pixels.Goals as goal

pub loop-i-init : goal.loop-i-init
loop-i-init g c =
    let same : c.args.at ≡ c.args.at + 0 = omega arith in
    (same, (refl, (c.requires.blocked.at_most, λ b. subst (λ n. FilledTo b n c.args.dst.now) same b.filled)))

pub spot_from-spot-requires-clause-j_bound : goal.spot_from-spot-requires-clause-j_bound
spot_from-spot-requires-clause-j_bound g c =
    let here : c.args.at + c.loop-i.j < c.args.end = omega (arith, c.loop-i-test.true, c.loop-i.invariant.0) in
    start-near c.requires.blocked c.loop-i.j c.loop-i.invariant.1.0 here

pub codes_by-requires-clause-placed : goal.codes_by-requires-clause-placed
codes_by-requires-clause-placed g c =
    let here : c.args.at + c.loop-i.j < c.args.end = omega (arith, c.loop-i-test.true, c.loop-i.invariant.0) in
    spot-placed c.requires.blocked c.loop-i.j c.loop-i.invariant.1.0 here c.spot_from-spot.ensures

pub loop-i-preserved : goal.loop-i-preserved
loop-i-preserved g c =
    let at = c.args.at in
    let j = c.loop-i.j in
    let z = c.loop-i.invariant.1.0 in
    let here : c.loop-i.i ≡ at + j = c.loop-i.invariant.0 in
    let h : at + j < c.args.end = omega (arith, c.loop-i-test.true, here) in (
      omega (arith, here),
      (
        omega (arith, z),
        (
          omega (arith, here, whole_there c.requires.blocked j z h),
          λ b.
              one-passed b j z h (c.loop-i.invariant.1.1.1 b)
              (spot-coded b j z h c.spot_from-spot.ensures c.codes_by.ensures)
              (c.write_pixel.ensures ∙ ap (λ n. spliced c.loop-i.dst n (codes_of c.codes_by.result)) here),
        ),
      ),
    )

pub returns : goal.returns
returns g c =
    let reached : c.args.at + c.loop-i.j ≡ c.args.end = omega (arith, c.loop-i-test.false, c.loop-i.invariant.0, c.loop-i.invariant.1.1.0) in
    λ b. subst (λ n. FilledTo b n c.loop-i.dst) reached (c.loop-i.invariant.1.1.1 b)
