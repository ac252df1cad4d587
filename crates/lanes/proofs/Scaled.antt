-- Readings, orders, sums and codes in parts of g each: g times a reading is one over g times its D, the weights by it are g times the weights, so that the sum
-- is g times the sum; and the code is the same.
use Prim.Native.Nat.{ℕ, ◌+◌, ◌*◌, ◌<◌}
use mathlib.Core.Path.{◌≡◌, refl, sym, ap, ap₂, ◌∙◌}
use mathlib.Core.List.{List, [], ◌∷◌}
use native.Mathlib.Nat as NatL
use lib.IntN.{ℤ, pos, ◌+ℤ◌, ◌*ℤ◌, *ℤ-zero, *ℤ_comm}
use Rattle.whole.specs.Nearest.{code}
use Rattle.whole.proofs.Halves as H
use Rattle.whole.proofs.NearestLaws.{code-scale}
use Rattle.rules.specs.Units.{sample_one, sample_at}
use Rattle.rules.specs.Looking.Interpolation.{Order, 1st, 2nd, 3rd, share, pair_by, climb, path_by, total, denominator, code_by}
use Rattle.rules.specs.Looking.Readings.{Reading, Descends}
use Rattle.rules.specs.declared.Colour.{Colour}
use Rattle.rules.specs.declared.Share.{Share}
use Rattle.colour.proofs.RowCodes.{weights-exchanged}

module _ (g : ℕ) where
  pub reading-scaled : {n den p i f : ℕ} → Reading n den p i f → Reading n (g * den) (g * p) i (g * f)
  reading-scaled {den = den} {i = i} {f = f} r =
      record {
        cell = r.cell;
        part = NatL.mul-le-mul_left g r.part;
        place = ap (λ x. g * x) r.place ∙ NatL.mul-add g (i * den) f ∙ ap (λ x. x + g * f) (NatL.mul_left_comm g i den);
      }

  pub descends-scaled : {f : Colour → ℕ} {o : Order} → Descends f o → Descends (λ k. g * f k) o
  descends-scaled s = record { upper = NatL.mul-le-mul_left g s.upper; lower = NatL.mul-le-mul_left g s.lower }

  -- one term more, with g times its weight
  term-scaled : (w v : ℕ) (z s t : ℤ) → v ≡ g * w → s ≡ pos g *ℤ t → pos v *ℤ z +ℤ s ≡ pos g *ℤ (pos w *ℤ z +ℤ t)
  term-scaled w v z s t e h =
      let x = pos w *ℤ z in
      ap₂ (λ u y. pos u *ℤ z +ℤ y) e (h ∙ *ℤ_comm (pos g) t)
      ∙ ap (λ y. y +ℤ t *ℤ pos g) (H.mul_assoc g w z ∙ *ℤ_comm (pos g) x)
      ∙ sym (H.add-mul x t (pos g))
      ∙ *ℤ_comm (x +ℤ t) (pos g)

  -- shares of the same rows, with g times the weights
  pub data Scaled : List Share → List Share → Type 0 where
    none : Scaled [] []
    more : {row w v : ℕ} {ss ts : List Share} → v ≡ g * w → Scaled ss ts → Scaled (share row v ∷ ss) (share row w ∷ ts)

  pub total-scaled : (table : List ℤ) (c : Colour) {ss ts : List Share} → Scaled ss ts → total table c ss ≡ pos g *ℤ total table c ts
  total-scaled table c none = sym (*ℤ-zero (pos g))
  total-scaled table c (more {row} {w} {v} {ss} {ts} e r) =
      term-scaled w v (sample_at table row c) (total table c ss) (total table c ts) e (total-scaled table c r)

  pub path-scaled : (n den : ℕ) (i f : Colour → ℕ) (o : Order) → Scaled (path_by n (g * den) i (λ k. g * f k) o) (path_by n den i f o)
  unfolding path_by climb
  path-scaled n den i f o =
      more (sym (NatL.mul-sub g den (f (1st o))))
      (more (sym (NatL.mul-sub g (f (1st o)) (f (2nd o)))) (more (sym (NatL.mul-sub g (f (2nd o)) (f (3rd o)))) (more refl none)))

  pub pair-scaled : (den i f : ℕ) → Scaled (pair_by (g * den) i (g * f)) (pair_by den i f)
  unfolding pair_by
  pair-scaled den i f = more (sym (NatL.mul-sub g den f)) (more refl none)

  -- the code of shares whose sum is g times s, over g times D
  pub code-in-parts : (den m : ℕ) (table : List ℤ) (c : Colour) (ss : List Share) (s : ℤ) → 0 < g → total table c ss ≡ pos g *ℤ s
      → code_by m (g * den) table c ss ≡ code (pos m *ℤ s) (denominator den) m
  unfolding code_by
  code-in-parts den m table c ss s some e =
      ap (λ z. code (pos m *ℤ z) (denominator (g * den)) m) e
      ∙ ap₂ (λ z x. code z x m) (weights-exchanged m g s) (NatL.mul_assoc g den sample_one)
      ∙ code-scale g (pos m *ℤ s) (denominator den) m some
