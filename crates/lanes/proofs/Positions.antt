-- The position of a code on an axis is g times its position in parts of g each. Nothing is cut: the lower bound is at code 0 or below it, and the greatest
-- code is not outside the cells.
use Prim.Native.Nat.{ℕ, ◌+◌, ◌*◌, ◌≤◌, ◌<◌, min}
use mathlib.Core.Path.{◌≡◌, ap, ap₂, ◌∙◌}
use native.Mathlib.Nat as NatL
use native.Mathlib.Omega.{arith}
use lib.IntN.{pos, neg_ℤ, nat_abs, ◌+ℤ◌, ◌-ℤ◌, neg_ℤ-neg_ℤ}
use Rattle.whole.specs.Integers.{up}
use Rattle.colour.specs.declared.plan.Axis.{Axis}
use Rattle.colour.proofs.Placing.{position_on}
use Rattle.lanes.specs.Parts.{Parted}

above-negative : (x y : ℕ) → up (pos x -ℤ neg_ℤ (pos y)) ≡ x + y
above-negative x y = ap (λ z. up (pos x +ℤ z)) (neg_ℤ-neg_ℤ (pos y))

-- how far the lower bound is below code 0
abbrev below : Axis → ℕ
below parts = nat_abs parts.low.0

-- in parts of g each, over their D
abbrev pub position_in : ℕ → Axis → ℕ → ℕ
position_in cells parts c = parts.each * cells * c + below parts * cells

whole-position : (cells : ℕ) (parts : Axis) (c : ℕ) → (parts.each * c + below parts) * cells ≡ position_in cells parts c
whole-position cells parts c = omega (arith, NatL.add-mul (parts.each * c) (below parts) cells, NatL.mul_right_comm parts.each c cells)

module _ {g : ℕ} {axis parts : Axis} (p : Parted g axis parts) where
  offset-in-parts : (c : ℕ) → up (pos (axis.each * c) -ℤ axis.low.0) ≡ g * (parts.each * c + below parts)
  offset-in-parts c =
      ap₂ (λ x z. up (pos (x * c) -ℤ z)) p.each_is p.low_is
      ∙ above-negative (g * parts.each * c) (g * below parts)
      ∙ omega (arith, NatL.mul_assoc g parts.each c, NatL.mul-add g (parts.each * c) (below parts))

  module _ {m cells : ℕ} (inside : position_in cells parts m ≤ cells * parts.den) (some : 0 < cells) (c : ℕ) (h : c ≤ m) where
    uncut : parts.each * c + below parts ≤ parts.den
    uncut =
        NatL.le_of_mul-le-mul_right
        (omega (arith, whole-position cells parts c, inside, NatL.mul-le-mul_left (parts.each * cells) h, NatL.mul_comm cells parts.den))
        some

    pub position-in-parts : position_on axis cells c ≡ g * position_in cells parts c
    position-in-parts =
        ap₂ (λ x y. min x y * cells) p.den_is (offset-in-parts c)
        ∙ ap (λ x. x * cells) (NatL.min-eq_right (NatL.mul-le-mul_left g uncut))
        ∙ NatL.mul_assoc g (parts.each * c + below parts) cells
        ∙ ap (λ x. g * x) (whole-position cells parts c)
