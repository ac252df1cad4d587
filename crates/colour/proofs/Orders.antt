-- An order of the three fractions that has been told, and the path that it gives.
use Prim.Native.Nat.{ℕ, ◌*◌}
use mathlib.Core.Path.{◌≡◌, refl, sym, ap, ap₂, subst, fun_ext, ◌∙◌}
use Rattle.rules.specs.Units.{row_at, stride}
use Rattle.rules.specs.Looking.Interpolation.{Order, 1st, 2nd, 3rd, order, climb, path_by}
use Rattle.rules.specs.Looking.{six}
use Rattle.rules.specs.Looking.Readings.{Descends}
use Rattle.rules.specs.declared.Colour.{Colour}
use Rattle.rules.specs.declared.Colour.TheVariants.{Red, Green, Blue}
use Rattle.rules.specs.declared.Shares.{Shares}
use Rattle.rules.proofs.Looking.Chart.{order-rule}
use Rattle.colour.specs.Places.{three, along}

pub descends : (f : Colour → ℕ) (o : Order) → order f ≡ o → Descends f o
descends f o e = subst (Descends f) e (order-rule f).descends

-- a climb in the order that the fractions have
pub in_order : (start den : ℕ) (f s : Colour → ℕ) (o : Order) (r : Shares) → order f ≡ o
    → r ≡ six (climb start den (f (1st o)) (f (2nd o)) (f (3rd o)) (s (1st o)) (s (2nd o)) (s (3rd o))) → r ≡ six (along start den f s)
unfolding along
in_order start den f s o r e h = h ∙ sym (ap (λ x. six (climb start den (f (1st x)) (f (2nd x)) (f (3rd x)) (s (1st x)) (s (2nd x)) (s (3rd x)))) e)

-- the three numbers of a function of the colour
all_three : (f : Colour → ℕ) → three (f Red) (f Green) (f Blue) ≡ f
all_three f = fun_ext each
  where
    each : (c : Colour) → three (f Red) (f Green) (f Blue) c ≡ f c
    each Red = refl
    each Green = refl
    each Blue = refl

-- by the strides of the three axes it is the path
pub along-path : (n den : ℕ) (i f : Colour → ℕ) → along (row_at n i) den (three (f Red) (f Green) (f Blue)) (three 1 n (n * n)) ≡ path_by n den i f (order f)
unfolding along path_by
along-path n den i f = ap₂ (λ (x y : Colour → ℕ). along (row_at n i) den x y) (all_three f) (all_three (stride n))
