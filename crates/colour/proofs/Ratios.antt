-- The two M in lowest terms: exact for all sixteen pairs of depths, and so small that twice p·S, with S moved into its range, is far within 64 bits.
use Prim.Native.Nat.{ℕ, ◌+◌, ◌*◌, ◌≤◌, ◌<◌}
use mathlib.Core.Path.{◌≡◌, refl, sym, ap, ◌∙◌}
use mathlib.Core.Bool.{Bool, true, ◌&&◌}
use mathlib.Core.List.{List, [], ◌∷◌}
use native.Mathlib.Nat as NatL
use native.Mathlib.Omega.{arith}
use borrow.Author.Tests.{eqb-true, ltb-true, leb-true}
use lib.Dec.{eqb, ltb, leb}
use Rattle.whole.specs.Divisors.{euclid, gcd}
use Rattle.rules.specs.Units.{of_bits, depths_of, raw_m, corrected_m}
use Rattle.rules.specs.declared.Bits.{Bits}
use Rattle.rules.specs.declared.Depth.{Depth}
use Rattle.rules.specs.declared.Depths.{Depths}
use Rattle.rules.proofs.KnownDepths.{four, of-sixteen}
use Rattle.rules.proofs.Tests.{and_both}
use Rattle.colour.specs.Limits.{bottom_limit, product_limit}
use Rattle.colour.specs.Ratios.{ratio_of, InTerms}
use Rattle.colour.specs.declared.ratio.Ratio.{Ratio}
use Rattle.std.specs.Prelude.{Some}

-- ---- the sixteen pairs

abbrev between : Depth → Depth → Ratio
between raw corrected = ratio_of (record { raw = raw; corrected = corrected })

-- what is asked of a ratio, as tests
abbrev exact : Depth → Depth → Bool
exact raw corrected = eqb ((between raw corrected).top * raw.greatest) (corrected.greatest * (between raw corrected).bottom)

abbrev small : Depth → Depth → Bool
small raw corrected =
    ltb 0 (between raw corrected).bottom && (leb (between raw corrected).bottom bottom_limit && leb ((between raw corrected).top * raw.greatest) product_limit)

abbrev lowest : Depth → Depth → Bool
lowest raw corrected = eqb (gcd (between raw corrected).top (between raw corrected).bottom) 1

all-exact : four (λ raw. four (exact raw)) ≡ true
unfolding ratio_of euclid
all-exact = refl

all_small : four (λ raw. four (small raw)) ≡ true
unfolding ratio_of euclid
all_small = refl

all-lowest : four (λ raw. four (lowest raw)) ≡ true
unfolding ratio_of euclid
all-lowest = refl

-- what they are: a line for each raw depth, with the four corrected ones; docs/RULES.md has this table
infix 70 ◌over◌
abbrev ◌over◌ : ℕ → ℕ → Ratio
p over q = record { top = p; bottom = q }

abbrev from_raw : ℕ → ℕ → List Ratio
from_raw bits m =
    let raw = of_bits bits m in
    between raw (of_bits 8 255) ∷ between raw (of_bits 10 1023) ∷ between raw (of_bits 12 4095) ∷ between raw (of_bits 16 65535) ∷ []

pub sixteen-ratios : (from_raw 8 255 ∷ from_raw 10 1023 ∷ from_raw 12 4095 ∷ from_raw 16 65535 ∷ [])
    ≡ ((1 over 1 ∷ 341 over 85 ∷ 273 over 17 ∷ 257 over 1 ∷ [])
    ∷ (85 over 341 ∷ 1 over 1 ∷ 1365 over 341 ∷ 21845 over 341 ∷ [])
    ∷ (17 over 273 ∷ 341 over 1365 ∷ 1 over 1 ∷ 4369 over 273 ∷ [])
    ∷ (1 over 257 ∷ 341 over 21845 ∷ 273 over 4369 ∷ 1 over 1 ∷ [])
    ∷ [])
unfolding ratio_of euclid
sixteen-ratios = refl

module _ (bits : Bits) (depths : Depths) (known : depths_of bits ≡ Some depths) where
  pub ratio-known : InTerms (ratio_of depths) depths
  ratio-known =
      let (some, most) = and_both _ _ (of-sixteen small all_small bits depths known) in
      let (bottom, product) = and_both _ _ most in
      record {
        exact = eqb-true _ _ (of-sixteen exact all-exact bits depths known);
        some = ltb-true _ _ some;
        bottom_most = leb-true _ _ bottom;
        product_most = leb-true _ _ product;
      }

  pub ratio-lowest : gcd (ratio_of depths).top (ratio_of depths).bottom ≡ 1
  ratio-lowest = eqb-true _ _ (of-sixteen lowest all-lowest bits depths known)

-- ---- over a unit of w·10,000,000

module _ {r : Ratio} {depths : Depths} (t : InTerms r depths) (u : ℕ) where
  pub crossed : r.top * (raw_m depths * u) ≡ corrected_m depths * (r.bottom * u)
  crossed =
      sym (NatL.mul_assoc r.top (raw_m depths) u) ∙ ap (λ x. x * u) t.exact ∙ NatL.mul_assoc (corrected_m depths) r.bottom u

  pub all-fits : u ≤ 100_000_000_000 → 2 * (r.top * (raw_m depths * u)) + r.bottom * u < 4_611_686_018_427_387_904
  all-fits h =
      let product = NatL.mul-le-mul {n₂ = product_limit} {m₂ = 100_000_000_000} t.product_most h in
      let bottom = NatL.mul-le-mul {n₂ = bottom_limit} {m₂ = 100_000_000_000} t.bottom_most h in
      omega (arith, product, bottom, NatL.mul_assoc r.top (raw_m depths) u)
