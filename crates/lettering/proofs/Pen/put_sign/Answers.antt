use mathlib.Core.Path.{◌≡◌}
use mathlib.Core.List.{[], ◌∷◌}
use native.Mathlib.Omega.{arith}
use Rattle.rules.specs.Decimals.{sign}
use Rattle.lettering.proofs.Pens.{adds-nothing}
use Rattle.lettering.proofs.Signed.{sign_below, sign-other}
use borrow.Author.Rules.{rules}
use Rattle.lettering.proofs.Pen.put_sign.Goals as goal

-- Below 0 one byte is put; else there is nothing to put.
pub put_byte-requires : goal.put_byte-requires
put_byte-requires c =
    let below : sign c.args.n.0 ≡ 45 ∷ [] = sign_below _ (search rules) c.if-z-lt0.true in
    rw below at c.requires

pub returns-then-z-lt0 : goal.returns-then-z-lt0
returns-then-z-lt0 c =
    let below : sign c.args.n.0 ≡ 45 ∷ [] = sign_below _ (search rules) c.if-z-lt0.true in
    rw below c.put_byte.ensures

pub returns-else-z-lt0 : goal.returns-else-z-lt0
returns-else-z-lt0 c =
    let other : sign c.args.n.0 ≡ [] = sign-other _ (search rules) c.if-z-lt0.false in
    rw other (adds-nothing _ (omega (arith, c.requires.fits)))
