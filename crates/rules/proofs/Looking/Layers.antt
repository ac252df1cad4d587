-- A sum of weighed samples, taken apart into D layers of weight 1. Layer t of a position p is the row index that p rounds up to from t / D on:
-- it is a matter of p alone, whatever cell p is read in. So a sum over the layers knows nothing of readings and orders.
use Prim.Native.Nat.{ℕ, zero, suc, ◌+◌, ◌-◌, ◌*◌, ◌/◌, ◌≤◌, ◌<◌}
use mathlib.Core.Path.{◌≡◌, refl, sym, ap, ap₂, ◌∙◌}
use mathlib.Core.List.{List, [], ◌∷◌}
use native.Mathlib.Nat as NatL
use native.Mathlib.Omega.{arith}
use lib.IntN.{ℤ, pos, ◌+ℤ◌, ◌*ℤ◌, +ℤ_idl, +ℤ_idr, +ℤ_assoc, zero-*ℤ}
use Rattle.whole.specs.Integers.{up, dn}
use Rattle.whole.proofs.Halves as H
use Rattle.rules.specs.Units.{sample_at}
use Rattle.rules.specs.Looking.Interpolation.{share, total}
use Rattle.rules.specs.Looking.Readings.{Reading}
use Rattle.rules.specs.declared.Colour.{Colour}
use Rattle.rules.specs.declared.Share.{Share}

-- ---- a position's index in layer t

pub level : ℕ → ℕ → ℕ → ℕ
level p den t = (p + (den - suc t)) / den

module _ {n den p i f : ℕ} (r : Reading n den p i f) (t : ℕ) (h : t < den) where
  pub level-above : t < f → level p den t ≡ i + 1
  unfolding level
  level-above k =
      NatL.div-eq_of_lt-le {k = i + 1} den (omega (arith, r.place, r.part, NatL.add-mul i 1 den))
      (omega (arith, r.place, r.part, NatL.add-mul (i + 1) 1 den, NatL.add-mul i 1 den))

  pub level-below : f ≤ t → level p den t ≡ i
  unfolding level
  level-below k = NatL.div-eq_of_lt-le {k = i} den (omega (arith, r.place, r.part)) (omega (arith, r.place, r.part, NatL.add-mul i 1 den))

-- on a row's own point every layer has that row's index
pub level-own : (den j t : ℕ) → t < den → level (j * den) den t ≡ j
unfolding level
level-own den j t h = NatL.div-eq_of_lt-le {k = j} den (omega arith) (omega (arith, NatL.add-mul j 1 den))

-- ---- the sum of the layers below a height

pub layers : (ℕ → ℤ) → ℕ → ℤ
layers v zero = pos 0
layers v (suc t) = v t +ℤ layers v t

suc-times : (k : ℕ) (z : ℤ) → pos (suc k) *ℤ z ≡ z +ℤ pos k *ℤ z
suc-times k z =
    H.eq-by (pos (suc k) *ℤ z) (z +ℤ pos k *ℤ z)
    (omega (arith, H.times (suc k) z, H.times k z, H.sum z (pos k *ℤ z), NatL.suc-mul k (up z), NatL.suc-mul k (dn z)))

-- k layers of one value, on top of those below a
pub layers-alike : (v : ℕ → ℤ) (z : ℤ) (a k : ℕ) → ((t : ℕ) → a ≤ t → t < a + k → v t ≡ z) → layers v (a + k) ≡ pos k *ℤ z +ℤ layers v a
unfolding layers
layers-alike v z a zero h = ap (layers v) (NatL.add-zero a) ∙ sym (ap (λ x. x +ℤ layers v a) (zero-*ℤ z) ∙ +ℤ_idl (layers v a))
layers-alike v z a (suc k) h =
    ap (layers v) (NatL.add-suc a k)
    ∙ ap₂ ◌+ℤ◌ (h (a + k) (omega arith) (omega arith)) (layers-alike v z a k (λ t p q. h t p (omega arith)))
    ∙ sym (+ℤ_assoc z (pos k *ℤ z) (layers v a))
    ∙ ap (λ x. x +ℤ layers v a) (sym (suc-times k z))

-- ---- shares as stairs: from the top down, each carries as many layers as its weight, and these layers lie in its row

pub data Stairs (row_in : ℕ → ℕ) : ℕ → List Share → Type 0 where
  ground : Stairs row_in 0 []
  stair : {top row weight : ℕ} {ss : List Share} (next : ℕ) → next + weight ≡ top → ((t : ℕ) → next ≤ t → t < top → row_in t ≡ row)
      → Stairs row_in next ss → Stairs row_in top (share row weight ∷ ss)

-- as a function, whose height, row and weight are read off the goal
pub step : {row_in : ℕ → ℕ} {top row weight : ℕ} {ss : List Share} (next : ℕ) → next + weight ≡ top → ((t : ℕ) → next ≤ t → t < top → row_in t ≡ row)
    → Stairs row_in next ss → Stairs row_in top (share row weight ∷ ss)
step next e same below = stair next e same below

module _ (table : List ℤ) (c : Colour) where
  -- the sum of the samples of the layers' rows
  pub layered : (ℕ → ℕ) → ℕ → ℤ
  layered row_in top = layers (λ t. sample_at table (row_in t) c) top

  pub stairs-total : {row_in : ℕ → ℕ} {top : ℕ} {ss : List Share} → Stairs row_in top ss → total table c ss ≡ layered row_in top
  unfolding layered layers
  stairs-total ground = refl
  stairs-total {row_in} (stair {row = row} {weight = w} next e same below) =
      let v : ℕ → ℤ = λ t. sample_at table (row_in t) c in
      let z = sample_at table row c in
      ap (λ x. pos w *ℤ z +ℤ x) (stairs-total below)
      ∙ sym (layers-alike v z next w (λ t l h. ap (λ x. sample_at table x c) (same t l (omega arith))))
      ∙ ap (layers v) e

  -- where every layer lies in one row
  pub layered-own : (row_in : ℕ → ℕ) (top row : ℕ) → ((t : ℕ) → t < top → row_in t ≡ row) → layered row_in top ≡ pos top *ℤ sample_at table row c
  unfolding layered layers
  layered-own row_in top row same =
      let v : ℕ → ℤ = λ t. sample_at table (row_in t) c in
      ap (layers v) (sym (NatL.zero-add top))
      ∙ layers-alike v (sample_at table row c) 0 top (λ t l h. ap (λ x. sample_at table x c) (same t (omega arith)))
      ∙ +ℤ_idr _
