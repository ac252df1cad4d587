use mathlib.Core.Path.{◌≡◌}
use Prim.Native.Nat.{suc, ◌+◌}
use native.Mathlib.Omega.{arith}
use Rattle.rules.specs.Answers.{codes_of}
use Rattle.rules.proofs.Memory.{stores-splice}
use Rattle.picture.proofs.pixels.write_pixel.Goals as goal

pub returns : goal.returns
returns c =
    let at = c.args.at in
    let one : at + 1 ≡ suc at = omega arith in
    let two : at + 2 ≡ suc (suc at) = omega arith in
    rw (one, two) (stores-splice c.args.dst.now at (codes_of c.args.pixel) (omega arith))
