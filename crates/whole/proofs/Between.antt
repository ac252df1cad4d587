-- A weighed sum lies between the least and the greatest of the values that carry weight, and its code between the codes of these values.
use mathlib.Core.List.{List, [], ◌∷◌}
use mathlib.Core.Logic.{◌⊎◌, inl, inr, ⊎_elim}
use Prim.Native.Nat.{ℕ, zero, suc, ◌≤◌, ◌<◌}
use native.Mathlib.Nat as NatL
use native.Mathlib.Omega.{arith}
use lib.Dec.{T}
use lib.IntN.{ℤ, pos, negsuc, zero-*ℤ, ◌*ℤ◌}
use lib.Signed.{◌≤ℤ◌, ◌<ℤ◌, ≤ℤ_refl, non_neg, clash_ℤ}
use Rattle.whole.specs.Nearest.{code, weights, weighed_sum, Unsigned, Carrying}
use Rattle.whole.proofs.Halves as H
use Rattle.whole.proofs.NearestLaws.{code_mono}

-- ---- the sum is at most what it would be with each value at `hi`, and at least what it would be with each at `lo`

term-mono : (w a b : ℤ) → T (non_neg w) → (pos 0 <ℤ w → a ≤ℤ b) → (w *ℤ a) ≤ℤ (w *ℤ b)
term-mono (pos zero) a b u h = rw (zero-*ℤ a, zero-*ℤ b) (≤ℤ_refl (pos 0))
term-mono (pos (suc w)) a b u h = H.mul_mono (suc w) (h (H.lt_by (pos 0) (pos (suc w)) (omega arith)))
term-mono (negsuc w) a b u h = absurd u

pub sum_below : (hi : ℤ) (xs : List (ℤ × ℤ)) → Unsigned xs → Carrying (λ z. z ≤ℤ hi) xs → weighed_sum xs ≤ℤ (weights xs *ℤ hi)
sum_below hi [] u p = rw zero-*ℤ (≤ℤ_refl (pos 0))
sum_below hi (x ∷ xs) u p = rw H.add-mul (H.sum_mono (term-mono x.0 x.1 hi u.0 p.0) (sum_below hi xs u.1 p.1))

pub sum-above : (lo : ℤ) (xs : List (ℤ × ℤ)) → Unsigned xs → Carrying (λ z. lo ≤ℤ z) xs → (weights xs *ℤ lo) ≤ℤ weighed_sum xs
sum-above lo [] u p = rw zero-*ℤ (≤ℤ_refl (pos 0))
sum-above lo (x ∷ xs) u p = rw H.add-mul (H.sum_mono (term-mono x.0 lo x.1 u.0 p.0) (sum-above lo xs u.1 p.1))

-- ---- one of the values that carry weight is the greatest, and one the least: once, for an order R

carrying-map : {P Q : ℤ → Type 0} → ((z : ℤ) → P z → Q z) → (xs : List (ℤ × ℤ)) → Carrying P xs → Carrying Q xs
carrying-map f [] p = tt
carrying-map f (x ∷ xs) p = (λ w. f x.1 (p.0 w), carrying-map f xs p.1)

-- where no value carries weight the weights do not add up to more than 0
weightless : (xs : List (ℤ × ℤ)) → Carrying (λ z. ⊥) xs → weights xs ≤ℤ pos 0
weightless [] n = ≤ℤ_refl (pos 0)
weightless (x ∷ xs) n = H.sum_mono (⊎_elim (λ h. h) (λ w. absurd (n.0 w)) (H.≤-or-> x.0 (pos 0))) (weightless xs n.1)

-- h is one of these values (so it has what they all have), and each has R to it
record Top (R : ℤ → ℤ → Type 0) (xs : List (ℤ × ℤ)) (h : ℤ) : Type 1 where
  all : Carrying (λ z. R z h) xs
  one : (P : ℤ → Type 0) → Carrying P xs → P h

module _ (R : ℤ → ℤ → Type 0) (rf : (a : ℤ) → R a a) (tr : (a b c : ℤ) → R a b → R b c → R a c) (tot : (a b : ℤ) → (R a b) ⊎ (R b a)) where
  top-or-none : (xs : List (ℤ × ℤ)) → (Carrying (λ z. ⊥) xs) ⊎ ((h : ℤ) × Top R xs h)
  top-or-none [] = inl tt
  top-or-none (x ∷ xs) = by (H.≤-or-> x.0 (pos 0)) (top-or-none xs)
    where
      -- the greater of x and h
      greater : pos 0 <ℤ x.0 → (h : ℤ) → Top R xs h → (h : ℤ) × Top R (x ∷ xs) h
      greater w h t =
          ⊎_elim (λ r. (h, record { all = (λ v. r, t.all); one = λ P p. t.one P p.1 }))
          (λ r. (x.1, record { all = (λ v. rf x.1, carrying-map (λ z q. tr z h x.1 q r) xs t.all); one = λ P p. p.0 w }))
          (tot x.1 h)

      by : (x.0 ≤ℤ pos 0) ⊎ (pos 0 <ℤ x.0) → (Carrying (λ z. ⊥) xs) ⊎ ((h : ℤ) × Top R xs h) → (Carrying (λ z. ⊥) (x ∷ xs)) ⊎ ((h : ℤ) × Top R (x ∷ xs) h)
      by (inl n) (inl none) = inl (λ w. clash_ℤ w n, none)
      by (inl n) (inr (h, t)) = inr (h, record { all = (λ w. clash_ℤ w n, t.all); one = λ P p. t.one P p.1 })
      by (inr w) (inl none) = inr (x.1, record { all = (λ v. rf x.1, carrying-map (λ z q. absurd q) xs none); one = λ P p. p.0 w })
      by (inr w) (inr (h, t)) = inr (greater w h t)

  top : (xs : List (ℤ × ℤ)) → pos 0 <ℤ weights xs → (h : ℤ) × Top R xs h
  top xs w = ⊎_elim (λ n. clash_ℤ w (weightless xs n)) (λ t. t) (top-or-none xs)

total : (a b : ℤ) → (a ≤ℤ b) ⊎ (b ≤ℤ a)
total a b = ⊎_elim inl (λ h. inr (H.<→≤ h)) (H.≤-or-> a b)

-- ---- the code of the sum is between the codes that the values of weight above 0 have by themselves

module _ (xs : List (ℤ × ℤ)) (u : Unsigned xs) (k den m a : ℕ) (d : 0 < den) (w : pos 0 <ℤ weights xs) where
  pub codes-below : Carrying (λ z. code (pos k *ℤ (weights xs *ℤ z)) den m ≤ a) xs → code (pos k *ℤ weighed_sum xs) den m ≤ a
  codes-below p = by (top (λ y z. y ≤ℤ z) ≤ℤ_refl (λ i j k r s. H.≤_trans r s) total xs w)
    where
      by : (h : ℤ) × Top (λ y z. y ≤ℤ z) xs h → code (pos k *ℤ weighed_sum xs) den m ≤ a
      by (h, t) = NatL.le_trans (code_mono _ _ den m d (H.mul_mono k (sum_below h xs u t.all))) (t.one _ p)

  pub codes-above : Carrying (λ z. a ≤ code (pos k *ℤ (weights xs *ℤ z)) den m) xs → a ≤ code (pos k *ℤ weighed_sum xs) den m
  codes-above p = by (top (λ y z. z ≤ℤ y) ≤ℤ_refl (λ i j k r s. H.≤_trans s r) (λ y z. total z y) xs w)
    where
      by : (h : ℤ) × Top (λ y z. z ≤ℤ y) xs h → a ≤ code (pos k *ℤ weighed_sum xs) den m
      by (h, t) = NatL.le_trans (t.one _ p) (code_mono _ _ den m d (H.mul_mono k (sum-above h xs u t.all)))
