use Prim.Native.Nat.{◌/◌, ◌%◌}
use mathlib.Core.Path.{◌≡◌}
use mathlib.Core.List.{◌++◌}
use native.Mathlib.Omega.{arith}
use Rattle.rules.specs.Units.{sample_places}
use Rattle.rules.specs.Decimals.{decimal, sign, after_point, decimals_of}
use Rattle.lettering.proofs.Pens.{adds-both, room-between, room-last}
use Rattle.lettering.proofs.Texts.{first-room}
use Rattle.lettering.proofs.Pen.put_decimals.Goals as goal

-- The sign, the whole part, and what stands after the point.
-- the text by the number that the code has
pub put_sign-requires : goal.put_sign-requires
unfolding decimals_of
put_sign-requires c =
    let text : let z = c.args.n.0 in let n = c.size-size.result in decimals_of sample_places z ≡ sign z ++ (decimal (n / 10_000_000) ++ after_point sample_places (n % 10_000_000)) = rw c.size-size.ensures in
    first-room _ _ (rw text at c.requires)

pub put_decimal-requires : goal.put_decimal-requires
unfolding decimals_of
put_decimal-requires c =
    let text : let z = c.args.n.0 in let n = c.size-size.result in decimals_of sample_places z ≡ sign z ++ (decimal (n / 10_000_000) ++ after_point sample_places (n % 10_000_000)) = rw c.size-size.ensures in
    room-between _ _ c.put_sign.ensures (rw text at c.requires)

pub put_fraction-requires : goal.put_fraction-requires
unfolding decimals_of
put_fraction-requires c =
    let text : let z = c.args.n.0 in let n = c.size-size.result in decimals_of sample_places z ≡ sign z ++ (decimal (n / 10_000_000) ++ after_point sample_places (n % 10_000_000)) = rw c.size-size.ensures in
    record { units_bound = omega arith; room = room-last _ _ c.put_decimal.ensures c.put_sign.ensures (rw text at c.requires) }

pub returns : goal.returns
unfolding decimals_of
returns c =
    let text : let z = c.args.n.0 in let n = c.size-size.result in decimals_of sample_places z ≡ sign z ++ (decimal (n / 10_000_000) ++ after_point sample_places (n % 10_000_000)) = rw c.size-size.ensures in
    rw text (adds-both c.put_sign.ensures (adds-both c.put_decimal.ensures c.put_fraction.ensures))
