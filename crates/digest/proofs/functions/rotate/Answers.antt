use Rattle.std.proofs.Common.{◌≡◌, ◌-◌, ◌*◌, ◌/◌, ◌%◌, ◌^◌, ap₂, ◌∙◌, arith}
use lib.Bits.{bit_or}
use Rattle.digest.proofs.Rotations.{rotation}
use Rattle.digest.proofs.functions.rotate.Goals as goal

-- The count is below 32, as it is asked for, so that no part of it is left out.
pub returns : goal.returns
returns c =
    let x = c.args.x in
    let n = c.args.n in
    let down : n % 32 ≡ n = omega (arith, c.requires.1) in
    let up : (32 - n % 32) % 32 ≡ 32 - n = omega (arith, c.requires.0, c.requires.1) in
    c.rotate_right.ensures
    ∙ ap₂ (λ a b. bit_or (x / 2 ^ a) ((x * 2 ^ b) % 2 ^ 32)) down up
    ∙ rotation n x c.requires.1 c.ranges.x.fits
