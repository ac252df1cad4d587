use mathlib.Core.Path.{◌≡◌, ap, sym, subst, ◌∙◌}
use Prim.Native.Nat.{◌<◌, ◌≤◌}
use native.Mathlib.Nat as NatL
use native.Mathlib.Omega.{arith}
use lib.IntN.{nat_abs}
use Rattle.whole.specs.Divisors.{gcd}
use Rattle.exact.proofs.CommonDivisors.{divides-both, reduced}
use Rattle.exact.proofs.Fractions.{divided}
use Rattle.exact.proofs.ratio.lowest.Goals as goal

-- The common divisor of the size of S and of E divides both; it is at most E, so it is an i64 too.
common : (c : goal.After-common_divisor-common) → c.common_divisor-common.result ≡ gcd (nat_abs c.args.s.0) c.args.e
common c = c.common_divisor-common.ensures ∙ ap (λ x. gcd x c.args.e) c.size.ensures

there : (c : goal.After-common_divisor-common) → 0 < c.common_divisor-common.result
there c = subst (λ g. 0 < g) (sym (common c)) (reduced (nat_abs c.args.s.0) c.args.e c.requires.e_nonzero).some

most : (c : goal.After-common_divisor-common) → c.common_divisor-common.result ≤ c.args.e
most c = subst (λ g. g ≤ c.args.e) (sym (common c)) (NatL.le_of_dvd c.requires.e_nonzero (divides-both (nat_abs c.args.s.0) c.args.e).1)

pub over-requires-clause-by_nonzero : goal.over-requires-clause-by_nonzero
over-requires-clause-by_nonzero c = there c

pub over-requires-clause-by_bound : goal.over-requires-clause-by_bound
over-requires-clause-by_bound c = omega (arith, most c)

pub nonzero_div-result : goal.nonzero_div-result
nonzero_div-result c = there c.before

pub returns : goal.returns
returns c = divided c.args.s.0 c.args.e _ c.over.result c.requires.e_nonzero (common c.before) c.over.ensures
