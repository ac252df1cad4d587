use mathlib.Core.Path.{◌≡◌}
use borrow.Author.Rules.{rules}
use mir.Syntax.{w64}
use mir.Val.{to_z, of_z}
use mir.ValLaws.{to_z-of_z}
use Rattle.lettering.proofs.Pens.{adds-both}
use Rattle.reporting.proofs.put_bound.Goals as goal

-- The sign and the digits, and the byte that ends them.
-- the bound comes through 64 bits as itself
pub returns : goal.returns
returns c =
    let same : let z = c.args.bound.0 in to_z w64 (of_z w64 z) ≡ z = to_z-of_z w64 _ (search rules) in
    adds-both (rw same at c.put_signed.ensures) c.put_byte.ensures
