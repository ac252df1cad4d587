use Prim.Native.Nat.{◌+◌, ◌*◌, ◌<◌}
use mathlib.Core.Path.{◌∙◌}
use native.Mathlib.Omega.{arith}
use lib.ListN.{length}
use Rattle.ppm.specs.Raster.{codes_of}
use Rattle.ppm.proofs.Codes.{wide-code}
use Rattle.ppm.proofs.raster.code_at.Goals as goal

pub returns-then-not-wide : goal.returns-then-not-wide
unfolding codes_of
returns-then-not-wide c =
    rw c.if-not-wide.true c.from.ensures

pub returns : goal.returns
returns c =
    let wide-place : let a = c.args in a.i * 2 + 1 < length a.bytes.now = let half = rw c.if-not-wide.false at c.requires in omega arith in
    let a = c.args in
    c.joined.ensures ∙ wide-code a.bytes.now a.i wide-place ∙ rw c.if-not-wide.false
