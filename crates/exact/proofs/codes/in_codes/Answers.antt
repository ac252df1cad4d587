use mathlib.Core.Path.{◌≡◌, ap, ap₂, subst, sym, ◌∙◌}
use Prim.Native.Nat.{ℕ, ◌+◌, ◌*◌, ◌/◌, ◌≤◌, ◌<◌}
use native.Mathlib.Nat as NatL
use native.Mathlib.Omega.{arith}
use lib.IntN.{ℤ, pos, nat_abs, ◌+ℤ◌, ◌*ℤ◌}
use Rattle.whole.proofs.Halves as H
use Rattle.exact.specs.Values.{RoundedDown}
use Rattle.exact.specs.declared.floor.Floor.{Floor}
use Rattle.exact.proofs.CommonDivisors.{reduced}
use Rattle.exact.proofs.Flooring.{quotient-most}
use Rattle.exact.proofs.CodeValues.{value-computed}
use Rattle.exact.proofs.codes.in_codes.Goals as goal

-- The law of the value, where each product is small enough: p·b is below p·E, and M times the quotient below 65,535,000.
product-size : {s : ℤ} {e m : ℕ} {f : Floor} {t : ℤ} → RoundedDown s e f → nat_abs s ≤ 1000 * e → m ≤ 65535 → t ≡ pos m → nat_abs t * nat_abs f.quotient.0 ≤ 65_535_000
product-size down most fits is = NatL.mul-le-mul {n₂ = 65535} {m₂ = 1000} (omega (arith, ap nat_abs is, fits)) (quotient-most down 1000 most)

more-most : (p unit : ℕ) {rest e : ℕ} → rest < e → 2 * (p * e) + unit < 4_611_686_018_427_387_904 → p * rest / unit < 2_305_843_009_213_693_952
more-most p unit {rest} {e} below most =
    omega (arith, NatL.mul-le-mul_left p (NatL.le_of_lt below), most, NatL.div-le_self (p * rest) unit)

pub times-whole-requires : goal.times-whole-requires
times-whole-requires c =
    omega (arith, product-size c.rounded_down-parts.ensures c.requires.s_bound_2 (omega (arith, c.ranges.m)) c.of-times.ensures)

pub plus-requires : goal.plus-requires
plus-requires c =
    omega (
      arith,
      ap nat_abs c.times-whole.ensures ∙ H.product-abs c.of-times.result.0 c.rounded_down-parts.result.quotient.0,
      product-size c.rounded_down-parts.ensures c.requires.s_bound_2 (omega (arith, c.ranges.m)) c.of-times.ensures,
      ap nat_abs c.of-more.ensures,
      more-most c.args.p c.args.unit c.rounded_down-parts.ensures.below c.requires.unit_bound,
    )

pub nonzero_div-result : goal.nonzero_div-result
nonzero_div-result c = subst (λ g. 0 < g) (sym c.common_divisor-common.ensures) (reduced _ c.args.unit c.requires.unit_nonzero).some

pub nonzero_div-result-2 : goal.nonzero_div-result-2
nonzero_div-result-2 c = subst (λ g. 0 < g) (sym c.common_divisor-common.ensures) (reduced _ c.args.unit c.requires.unit_nonzero).some

pub returns : goal.returns
returns c =
    let parts = c.rounded_down-parts in
    let whole = c.plus.ensures ∙ ap₂ ◌+ℤ◌ (c.times-whole.ensures ∙ ap (λ z. z *ℤ parts.result.quotient.0) c.of-times.ensures) c.of-more.ensures in
    value-computed c.args.s.0 c.args.e c.args.p c.args.unit c.args.m c.requires.e_value parts.result parts.ensures
    c.requires.unit_nonzero c.plus.result whole c.common_divisor-common.result c.common_divisor-common.ensures
