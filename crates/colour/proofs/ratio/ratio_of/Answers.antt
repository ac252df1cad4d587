use Prim.Native.Nat.{ℕ, zero, suc, ◌/◌, ◌<◌}
use mathlib.Core.Path.{◌≡◌, sym, ap₂, subst, ◌∙◌}
use native.Mathlib.Nat.{div-zero}
use native.Mathlib.Omega.{arith}
use Rattle.whole.specs.Divisors.{gcd}
use Rattle.rules.specs.Units.{raw_m, corrected_m}
use Rattle.colour.specs.Ratios.{ratio_of}
use Rattle.colour.specs.declared.ratio.Ratio.{Ratio}
use Rattle.colour.proofs.ratio.ratio_of.Goals as goal

-- The divisor is not 0, since what it leaves of the M of raw codes is not.
common : (c : goal.After-common_divisor-common) → let d = c.args.depths in c.common_divisor-common.result ≡ gcd (corrected_m d) (raw_m d)
common c = c.common_divisor-common.ensures ∙ ap₂ gcd c.greatest-above.ensures c.greatest-below.ensures

above-0 : (n common : ℕ) → 0 < n / common → 0 < common
above-0 n zero h = absurd (omega (arith, div-zero n))
above-0 n (suc k) h = omega arith

divisor-there : (c : goal.After-common_divisor-common) → 0 < c.common_divisor-common.result
unfolding ratio_of
divisor-there c = subst (λ x. 0 < x) (sym (common c)) (above-0 _ _ c.requires.some)

same-ratio : {a b : Ratio} → a.top ≡ b.top → a.bottom ≡ b.bottom → a ≡ b
same-ratio p q i = record { top = p i; bottom = q i }

pub nonzero_div-result : goal.nonzero_div-result
nonzero_div-result c = omega (arith, divisor-there c)

pub nonzero_div-result-2 : goal.nonzero_div-result-2
nonzero_div-result-2 c = omega (arith, divisor-there c)

pub returns : goal.returns
unfolding ratio_of
returns c = same-ratio (ap₂ ◌/◌ c.greatest-above.ensures (common c)) (ap₂ ◌/◌ c.greatest-below.ensures (common c))
