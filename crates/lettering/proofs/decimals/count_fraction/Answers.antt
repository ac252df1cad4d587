use Prim.Native.Nat.{◌+◌}
use mathlib.Core.Path.{◌≡◌, sym, ap, ◌∙◌}
use native.Mathlib.Omega.{arith}
use lib.ListN.{length}
use Rattle.rules.specs.Units.{sample_places}
use Rattle.rules.specs.Decimals.{after_point}
use Rattle.rules.proofs.Decimals.{no_fraction, fraction-within}
use Rattle.lettering.proofs.LastDigits.{fraction-length}
use Rattle.lettering.proofs.decimals.count_fraction.Goals as goal

-- With no units left there is nothing; else the point and the places that are kept.
pub returns-then-units-eq0 : goal.returns-then-units-eq0
returns-then-units-eq0 c = sym (ap length (ap (after_point sample_places) c.if-units-eq0.true ∙ no_fraction sample_places))

pub overflow_add-result : goal.overflow_add-result
overflow_add-result c =
    let counted : length (after_point sample_places c.args.units) ≡ c.fraction_of-fraction.result.places + 1 = fraction-length sample_places _ _ _ (omega (arith, c.if-units-eq0.false)) c.fraction_of-fraction.ensures in
    record { fits = omega (arith, counted, fraction-within sample_places c.args.units) }

pub returns : goal.returns
returns c =
    let counted : length (after_point sample_places c.args.units) ≡ c.fraction_of-fraction.result.places + 1 = fraction-length sample_places _ _ _ (omega (arith, c.if-units-eq0.false)) c.fraction_of-fraction.ensures in
    sym counted
