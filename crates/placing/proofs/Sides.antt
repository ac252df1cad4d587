-- The side tells which way `offset` moved the number, and by `Within` that it did not.
use Prim.Native.Nat.{ℕ, ◌≤◌, ◌<◌}
use mathlib.Core.Path.{◌≡◌, refl, ap, subst}
use mathlib.Core.Bool.{Bool, true, false, cond}
use native.Mathlib.Omega.{arith}
use lib.IntN.{ℤ, pos}
use lib.Signed.{◌≤ℤ◌, ◌<ℤ◌, lt_z, lt_z_yes, lt_z_no}
use Rattle.whole.specs.Integers.{up, dn}
use Rattle.whole.proofs.Halves as H
use Rattle.whole.proofs.Held.{passed, failed, true-by, false-by}
use Rattle.rules.specs.Looking.Interpolation.{den, offset}
use Rattle.rules.specs.declared.Domain.{Domain}
use Rattle.placing.specs.Sides.{unmoved, side_of}
use Rattle.placing.specs.declared.side.Side.{Side}
use Rattle.placing.specs.declared.side.Side.TheVariants.{Below, Within, Above}

module _ (m : ℕ) (dom : Domain) (c : ℕ) where
  abbrev z : ℤ
  z = unmoved m dom c

  -- ---- what a side says of the number and of the offset

  abbrev pub Says : Side → Type 0
  Says Below = (offset m dom c ≡ 0) × (pos (offset m dom c) ≡ z → ⊥)
  Says Within = pos (offset m dom c) ≡ z
  Says Above = (offset m dom c ≡ den m dom) × (pos (offset m dom c) ≡ z → ⊥)

  below-says : z <ℤ pos 0 → Says Below
  unfolding offset
  below-says h = (omega (arith, H.lt h, H.split z), λ e. omega (arith, H.lt h, ap dn e))

  above-says : pos (den m dom) <ℤ z → Says Above
  unfolding offset
  above-says h = (omega (arith, H.lt h), λ e. omega (arith, H.lt h, ap up e))

  within-says : pos 0 ≤ℤ z → z ≤ℤ pos (den m dom) → Says Within
  unfolding offset
  within-says l h = H.eq-by (pos (offset m dom c)) z (omega (arith, H.le l, H.le h, H.split z))

  pub side-says : Says (side_of m dom c)
  unfolding side_of
  side-says = low (lt_z z (pos 0)) refl
    where
      high : pos 0 ≤ℤ z → (t : Bool) → lt_z (pos (den m dom)) z ≡ t → Says (cond t Above Within)
      high l true e = above-says (lt_z_yes (passed _ e))
      high l false e = within-says l (lt_z_no (failed _ e))

      low : (t : Bool) → lt_z z (pos 0) ≡ t → Says (cond t Below (cond (lt_z (pos (den m dom)) z) Above Within))
      low true e = below-says (lt_z_yes (passed _ e))
      low false e = high (lt_z_no (failed _ e)) (lt_z (pos (den m dom)) z) refl

  -- ---- the laws

  pub below-moved-up : side_of m dom c ≡ Below → offset m dom c ≡ 0
  below-moved-up e = (subst Says e side-says).0

  pub above-moved-down : side_of m dom c ≡ Above → offset m dom c ≡ den m dom
  above-moved-down e = (subst Says e side-says).0

  -- within exactly where nothing was moved
  pub within-unmoved : side_of m dom c ≡ Within → pos (offset m dom c) ≡ unmoved m dom c
  within-unmoved e = subst Says e side-says

  pub unmoved-within : pos (offset m dom c) ≡ unmoved m dom c → side_of m dom c ≡ Within
  unmoved-within e = by (side_of m dom c) side-says
    where
      by : (s : Side) → Says s → s ≡ Within
      by Below says = absurd (says.1 e)
      by Within says = refl
      by Above says = absurd (says.1 e)

  -- ---- the tests of the code

  pub is-below : lt_z z (pos 0) ≡ true → Below ≡ side_of m dom c
  unfolding side_of
  is-below e = rw e

  module _ (low : lt_z z (pos 0) ≡ false) where
    pub is-above : den m dom < up z → Above ≡ side_of m dom c
    unfolding side_of
    is-above h = rw (low, true-by (lt_z (pos (den m dom)) z) (H.lt_by (pos (den m dom)) z (omega (arith, H.split z))).lt)

    pub is_within : up z ≤ den m dom → Within ≡ side_of m dom c
    unfolding side_of
    is_within h = rw (low, false-by (lt_z (pos (den m dom)) z) (λ t. omega (arith, H.lt (lt_z_yes {a = pos (den m dom)} {b = z} t))))
