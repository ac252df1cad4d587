use Prim.Native.Nat.{◌<◌}
use mathlib.Core.Path.{◌≡◌, ap, ◌∙◌}
use mathlib.Core.List.{◌∷◌}
use native.Mathlib.Omega.{arith}
use Rattle.rules.specs.Units.{sample_places}
use Rattle.rules.specs.Decimals.{after_point}
use Rattle.rules.proofs.Decimals.{no_fraction, some-fraction}
use Rattle.lettering.specs.Digits.{last_digits}
use Rattle.lettering.proofs.LastDigits.{fraction-text}
use Rattle.lettering.proofs.Pens.{adds-nothing, adds-both, room-after}
use Rattle.lettering.proofs.Texts.{first-room}
use Rattle.lettering.proofs.Pen.put_fraction.Goals as goal

-- With no units left there is nothing to put; else the point stands before the places that are kept.
pub returns-then-units-eq0 : goal.returns-then-units-eq0
returns-then-units-eq0 c =
    rw (ap (after_point sample_places) c.if-units-eq0.true ∙ no_fraction sample_places) (adds-nothing _ (omega (arith, c.requires.room.fits)))

pub put_byte-requires : goal.put_byte-requires
put_byte-requires c =
    let some : 0 < c.args.units = omega (arith, c.if-units-eq0.false) in
    first-room _ _ (rw (some-fraction sample_places _ some) at c.requires.room)

pub put_last-requires : goal.put_last-requires
put_last-requires c =
    let some : 0 < c.args.units = omega (arith, c.if-units-eq0.false) in
    let text : let f = c.fraction_of-fraction.result in after_point sample_places c.args.units ≡ 46 ∷ last_digits f.places f.digits = fraction-text sample_places _ _ _ some c.fraction_of-fraction.ensures in
    room-after _ c.put_byte.ensures (rw text at c.requires.room)

pub returns : goal.returns
returns c =
    let some : 0 < c.args.units = omega (arith, c.if-units-eq0.false) in
    let text : let f = c.fraction_of-fraction.result in after_point sample_places c.args.units ≡ 46 ∷ last_digits f.places f.digits = fraction-text sample_places _ _ _ some c.fraction_of-fraction.ensures in
    rw text (adds-both c.put_byte.ensures c.put_last.ensures)
