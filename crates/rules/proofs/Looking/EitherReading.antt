-- Demand 3, either reading: every cell that a position can be read in, and every order of equal fractions, give one exact value.
-- For each of them makes stairs over the same layers.
use Prim.Native.Nat.{ℕ, ◌+◌, ◌*◌, ◌≤◌, ◌<◌}
use mathlib.Core.Path.{◌≡◌, sym, ap, ◌∙◌}
use native.Mathlib.Nat as NatL
use native.Mathlib.Decide.{dec_le}
use native.Mathlib.Omega.{arith}
use Rattle.rules.specs.Units.{row_at, stride}
use Rattle.rules.specs.Looking.Interpolation.{Order, rgb, rbg, grb, gbr, brg, bgr, 1st, 2nd, 3rd, pair_by, path_by, climb}
use Rattle.rules.specs.Looking.Readings.{Reading, Descends}
use Rattle.rules.specs.declared.Colour.{Colour}
use Rattle.rules.proofs.Looking.Layers.{level, level-above, level-below, Stairs, ground, step}

-- ---- what readings there are: two of one position are in neighbouring cells, at the end of the one and at the start of the other

pub cell_below : (n den p i : ℕ) → Reading n den p (i + 1) 0 → Reading n den p i den
cell_below n den p i r =
    record { cell = omega (arith, r.cell); part = NatL.le_refl den; place = omega (arith, r.place, NatL.add-mul i 1 den) }

pub only-these : {n den p i f j g : ℕ} → 0 < den → Reading n den p i f → Reading n den p j g → i < j → (j ≡ i + 1) × ((f ≡ den) × (g ≡ 0))
only-these {den = den} {i = i} {f = f} {j = j} {g = g} d r q h = by (dec_le j (i + 1))
  where
    by : Dec (j ≤ i + 1) → (j ≡ i + 1) × ((f ≡ den) × (g ≡ 0))
    by (yes k) =
        let e : j ≡ i + 1 = omega arith in
        let m : j * den ≡ i * den + den = ap (λ x. x * den) e ∙ omega (arith, NatL.add-mul i 1 den) in
        (e, omega (arith, r.place, r.part, q.place))
    by (no k) =
        let m : i * den + 2 * den ≤ j * den = omega (arith, NatL.mul-le-mul_right {m = i + 2} {n = j} den (omega arith), NatL.add-mul i 2 den) in
        absurd (omega (arith, r.place, r.part, q.place))

-- ---- 1D

pub line-stairs : {n den p i f : ℕ} → Reading n den p i f → Stairs (level p den) den (pair_by den i f)
unfolding pair_by
line-stairs {f = f} r =
    step f (omega (arith, r.part)) (λ t l h. level-below r t h l)
    (step 0 (omega arith) (λ t l h. level-above r t (omega (arith, r.part)) h) ground)

-- ---- 3D

-- a row by its indices, the axes taken in any order
row-in-order : (n : ℕ) (i : Colour → ℕ) (o : Order) → row_at n i ≡ stride n (1st o) * i (1st o) + stride n (2nd o) * i (2nd o) + stride n (3rd o) * i (3rd o)
row-in-order n i rgb = omega arith
row-in-order n i rbg = omega arith
row-in-order n i grb = omega arith
row-in-order n i gbr = omega arith
row-in-order n i brg = omega arith
row-in-order n i bgr = omega arith

-- some indices up, so many strides up
pub row_up : (n : ℕ) (i x : Colour → ℕ) (o : Order) (a b d : ℕ) → x (1st o) ≡ i (1st o) + a → x (2nd o) ≡ i (2nd o) + b → x (3rd o) ≡ i (3rd o) + d
    → row_at n x ≡ row_at n i + stride n (1st o) * a + stride n (2nd o) * b + stride n (3rd o) * d
row_up n i x o a b d p q r =
    row-in-order n x o
    ∙ omega (arith, row-in-order n i o, along (1st o) a p, along (2nd o) b q, along (3rd o) d r)
  where
    along : (c : Colour) (e : ℕ) → x c ≡ i c + e → stride n c * x c ≡ stride n c * i c + stride n c * e
    along c e h = ap (λ y. stride n c * y) h ∙ NatL.mul-add (stride n c) (i c) e

-- the row of a layer of three positions
abbrev pub row_in : ℕ → ℕ → (Colour → ℕ) → ℕ → ℕ
row_in n den p t = row_at n (λ k. level (p k) den t)

pub cube-stairs : {n den : ℕ} {p i f : Colour → ℕ} {o : Order} → ((k : Colour) → Reading n den (p k) (i k) (f k)) → Descends f o
    → Stairs (row_in n den p) den (path_by n den i f o)
unfolding path_by climb
cube-stairs {n} {den} {p} {i} {f} {o} r s =
    step (f (1st o)) (omega (arith, within)) none-up
    (step (f (2nd o)) (omega arith) one_up
    (step (f (3rd o)) (omega arith) two_up
    (step 0 (omega arith) all_up ground)))
  where
    within : f (1st o) ≤ den
    within = (r (1st o)).part

    up : (k : Colour) (t : ℕ) → t < den → t < f k → level (p k) den t ≡ i k + 1
    up k t h = level-above (r k) t h

    stay : (k : Colour) (t : ℕ) → t < den → f k ≤ t → level (p k) den t ≡ i k + 0
    stay k t h l = level-below (r k) t h l ∙ sym (NatL.add-zero (i k))

    in_row : (t a b d : ℕ) {row : ℕ} → level (p (1st o)) den t ≡ i (1st o) + a → level (p (2nd o)) den t ≡ i (2nd o) + b → level (p (3rd o)) den t ≡ i (3rd o) + d
        → row_at n i + stride n (1st o) * a + stride n (2nd o) * b + stride n (3rd o) * d ≡ row → row_in n den p t ≡ row
    in_row t a b d e g h z = row_up n i (λ k. level (p k) den t) o a b d e g h ∙ z

    none-up : (t : ℕ) → f (1st o) ≤ t → t < den → row_in n den p t ≡ row_at n i
    none-up t l h = in_row t 0 0 0 (stay (1st o) t h l) (stay (2nd o) t h (omega arith)) (stay (3rd o) t h (omega arith)) (omega arith)

    one_up : (t : ℕ) → f (2nd o) ≤ t → t < f (1st o) → row_in n den p t ≡ row_at n i + stride n (1st o)
    one_up t l h =
        let k : t < den = omega (arith, within) in
        in_row t 1 0 0 (up (1st o) t k h) (stay (2nd o) t k l) (stay (3rd o) t k (omega arith)) (omega arith)

    two_up : (t : ℕ) → f (3rd o) ≤ t → t < f (2nd o) → row_in n den p t ≡ row_at n i + stride n (1st o) + stride n (2nd o)
    two_up t l h =
        let k : t < den = omega (arith, within) in
        in_row t 1 1 0 (up (1st o) t k (omega arith)) (up (2nd o) t k h) (stay (3rd o) t k l) (omega arith)

    all_up : (t : ℕ) → 0 ≤ t → t < f (3rd o) → row_in n den p t ≡ row_at n i + stride n (1st o) + stride n (2nd o) + stride n (3rd o)
    all_up t l h =
        let k : t < den = omega (arith, within) in
        in_row t 1 1 1 (up (1st o) t k (omega arith)) (up (2nd o) t k (omega arith)) (up (3rd o) t k h) (omega arith)
