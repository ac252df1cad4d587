-- The shares of a pair and of a path: no weight is negative, the weights add up to D, and the rows are below the count of rows, also where they carry nothing.
use Prim.Native.Nat.{ℕ, ◌+◌, ◌*◌, ◌≤◌, ◌<◌}
use mathlib.Core.Path.{◌≡◌, refl, ap, ◌∙◌}
use mathlib.Core.List.{List}
use native.Mathlib.Nat as NatL
use native.Mathlib.Omega.{arith}
use lib.IntN.{pos, ◌+ℤ◌}
use lib.Signed.{◌≤ℤ◌}
use Rattle.whole.proofs.Halves as H
use Rattle.rules.specs.Units.{row_at, stride}
use Rattle.rules.specs.Looking.Interpolation.{Order, 1st, 2nd, 3rd, pair_by, path_by, climb}
use Rattle.rules.specs.Looking.Judging.{sum_of}
use Rattle.rules.specs.Demands.{Each}
use Rattle.rules.specs.declared.Colour.{Colour}
use Rattle.rules.specs.declared.Colour.TheVariants.{Red, Green, Blue}
use Rattle.rules.specs.declared.Share.{Share}
use Rattle.rules.proofs.Looking.Layers.{Stairs, ground, stair}
use Rattle.rules.proofs.Looking.EitherReading.{row_up}

-- ---- weights, of any stairs

module _ {row_in : ℕ → ℕ} where
  pub weights-not-negative : {top : ℕ} {ss : List Share} → Stairs row_in top ss → Each (λ x. pos 0 ≤ℤ x.weight) ss
  weights-not-negative ground = tt
  weights-not-negative (stair {weight = w} next e same below) = (H.le-by (pos 0) (pos w) (omega arith), weights-not-negative below)

  pub weights-add-up : {top : ℕ} {ss : List Share} → Stairs row_in top ss → sum_of ss ≡ pos top
  weights-add-up ground = refl
  weights-add-up (stair {weight = w} next e same below) = ap (λ x. pos w +ℤ x) (weights-add-up below) ∙ ap pos (NatL.add_comm w next ∙ e)

-- ---- rows

pub pair-rows : (n den i f : ℕ) → i + 2 ≤ n → Each (λ s. s.row < n) (pair_by den i f)
unfolding pair_by
pair-rows n den i f h = (omega arith, (omega arith, tt))

-- three indices below N are a row below N·N·N
pub row_below : (n : ℕ) (x : Colour → ℕ) → ((k : Colour) → x k < n) → row_at n x < n * n * n
row_below n x h =
    omega (arith, h Red, NatL.mul-le-mul_left n (h Green), NatL.mul-suc n (x Green), NatL.mul-le-mul_left (n * n) (h Blue), NatL.mul-suc (n * n) (x Blue))

-- the last row of a path is the greatest: it is one index up along each axis
pub path-rows : (n den : ℕ) (i f : Colour → ℕ) (o : Order) → ((k : Colour) → i k + 2 ≤ n) → Each (λ s. s.row < n * n * n) (path_by n den i f o)
unfolding path_by climb
path-rows n den i f o h =
    let last : row_at n i + stride n (1st o) * 1 + stride n (2nd o) * 1 + stride n (3rd o) * 1 < n * n * n
    = rw (row_up n i (λ k. i k + 1) o 1 1 1 refl refl refl) at (row_below n (λ k. i k + 1) (λ k. omega (arith, h k))) in
    (omega arith, (omega arith, (omega arith, (omega arith, tt))))
