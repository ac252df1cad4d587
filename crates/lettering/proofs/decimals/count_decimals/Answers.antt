use Prim.Native.Nat.{◌/◌, ◌%◌, ◌≤◌}
use mathlib.Core.List.{◌++◌}
use native.Mathlib.Omega.{arith}
use lib.ListN.{length, length-append}
use Rattle.rules.specs.Units.{sample_places}
use Rattle.rules.specs.Decimals.{decimal, sign, after_point, decimals_of}
use Rattle.rules.proofs.Decimals.{sign-within, decimal-within, fraction-within}
use Rattle.lettering.proofs.decimals.count_decimals.Goals as goal

-- The sign, the whole part and what stands after the point, each counted.
-- 64 bits hold no more than 20 digits
pub overflow_add-before_point : goal.overflow_add-before_point
overflow_add-before_point c =
    let digits-few : length (decimal (c.size-size.result / 10_000_000)) ≤ 20 = decimal-within 19 _ (omega (arith, c.size-size.type_inv)) in
    record { fits = omega (arith, c.count_sign.ensures, sign-within c.args.n.0, c.count_digits.ensures, digits-few) }

pub overflow_add-result : goal.overflow_add-result
overflow_add-result c =
    let digits-few : length (decimal (c.size-size.result / 10_000_000)) ≤ 20 = decimal-within 19 _ (omega (arith, c.size-size.type_inv)) in
    let z = c.args.n.0 in
    record {
      fits = omega (arith, c.count_sign.ensures, sign-within z, c.count_digits.ensures, digits-few, c.count_fraction.ensures, fraction-within sample_places (c.size-size.result % 10_000_000));
    }

pub returns : goal.returns
unfolding decimals_of
returns c =
    let z = c.args.n.0 in
    let n = c.size-size.result in
    rw (← c.size-size.ensures)
    (omega (
      arith,
      c.count_sign.ensures,
      c.count_digits.ensures,
      c.count_fraction.ensures,
      length-append (sign z) (decimal (n / 10_000_000) ++ after_point sample_places (n % 10_000_000)),
      length-append (decimal (n / 10_000_000)) (after_point sample_places (n % 10_000_000)),
    ))
