-- Euclid's divisor divides both numbers, is divided by whatever divides both, and grows with them. So two numbers that are divided by it have no divisor
-- left in common, and of a fraction in lowest terms there is one only.
use Prim.Native.Nat.{ℕ, zero, suc, ◌-◌, ◌*◌, ◌/◌, ◌%◌, ◌∣◌, ◌≤◌, ◌<◌}
use mathlib.Core.Path.{◌≡◌, sym, ap, ap₂, subst, ◌∙◌}
use native.Mathlib.Nat as NatL
use native.Mathlib.Omega.{arith}
use Rattle.whole.specs.Divisors.{gcd}
use Rattle.whole.proofs.Divisors.{gcd-step, gcd-end}

-- ---- what goes down by Euclid's steps holds of all numbers

by-steps : (P : ℕ → ℕ → Type 0) → ((x : ℕ) → P x 0) → ((x y : ℕ) → 0 < y → P y (x % y) → P x y) → (x y : ℕ) → P x y
by-steps P end step x y = down y x y (NatL.le_refl y)
  where
    down : (n x y : ℕ) → y ≤ n → P x y
    down zero x zero h = end x
    down zero x (suc y) h = absurd (omega arith)
    down (suc n) x zero h = end x
    down (suc n) x (suc y) h =
        let less = NatL.mod-lt x {m = suc y} (omega arith) in
        step x (suc y) (omega arith) (down n (suc y) (x % suc y) (omega arith))

-- ---- the divisor

pub divides-both : (x y : ℕ) → (gcd x y ∣ x) × (gcd x y ∣ y)
divides-both =
    by-steps (λ x y. (gcd x y ∣ x) × (gcd x y ∣ y)) (λ x. rw (gcd-end x) (NatL.dvd_refl x, NatL.dvd-zero x))
    (λ x y some d. rw (gcd-step x y some) ((NatL.dvd-mod_iff _ d.0).0 d.1, d.0))

divided-by-all : (d x y : ℕ) → d ∣ x → d ∣ y → d ∣ gcd x y
divided-by-all d =
    by-steps (λ x y. d ∣ x → d ∣ y → d ∣ gcd x y) (λ x p q. rw (gcd-end x) p)
    (λ x y some next p q. rw (gcd-step x y some) (next q ((NatL.dvd-mod_iff d q).1 p)))

mod-scaled : (x y c : ℕ) → 0 < c → x * c % (y * c) ≡ x % y * c
mod-scaled x y c some =
    NatL.mod_def (x * c) (y * c)
    ∙ ap (λ q. x * c - y * c * q) (NatL.mul-div-mul_right x y some)
    ∙ omega (arith, NatL.mul-div-le x y, ap (λ n. n * c) (NatL.div-add-mod x y))

pub gcd-scaled : (c : ℕ) → 0 < c → (x y : ℕ) → gcd (x * c) (y * c) ≡ gcd x y * c
gcd-scaled c c-some =
    by-steps (λ x y. gcd (x * c) (y * c) ≡ gcd x y * c) (λ x. rw (NatL.zero-mul c) (gcd-end (x * c) ∙ ap (λ n. n * c) (sym (gcd-end x))))
    (λ x y some next.
    gcd-step (x * c) (y * c) (NatL.mul-pos some c-some)
    ∙ ap (gcd (y * c)) (mod-scaled x y c c-some)
    ∙ next
    ∙ ap (λ n. n * c) (sym (gcd-step x y some)))

-- what divides a product and has nothing in common with one factor divides the other
pub divides-other : (a b c : ℕ) → gcd a b ≡ 1 → b ∣ a * c → b ∣ c
divides-other a b zero e d = NatL.dvd-zero b
divides-other a b (suc c) e d =
    let other : gcd (a * suc c) (b * suc c) ≡ suc c = gcd-scaled (suc c) (omega arith) a b ∙ ap (λ g. g * suc c) e ∙ NatL.one-mul (suc c) in
    subst (λ n. b ∣ n) other (divided-by-all b (a * suc c) (b * suc c) d (NatL.dvd-mul_right b (suc c)))

-- ---- divided by it

pub record Reduced (x y : ℕ) : Type 0 where
  pub some : 0 < gcd x y
  pub top : x / gcd x y * gcd x y ≡ x
  pub bottom : y / gcd x y * gcd x y ≡ y
  pub there : 0 < y / gcd x y
  pub lowest : gcd (x / gcd x y) (y / gcd x y) ≡ 1

pub reduced : (x y : ℕ) → 0 < y → Reduced x y
reduced x y y-some =
    let g = gcd x y in
    let some : 0 < g = NatL.pos_of_dvd_of_pos (divides-both x y).1 y-some in
    let top : x / g * g ≡ x = NatL.div-mul_cancel g (divides-both x y).0 in
    let bottom : y / g * g ≡ y = NatL.div-mul_cancel g (divides-both x y).1 in
    record {
      some = some;
      top = top;
      bottom = bottom;
      there = NatL.lt_of_mul-lt-mul_right g (omega arith);
      lowest =
          NatL.eq_of_mul-eq-mul_right g some _ 1
          (sym (gcd-scaled g some (x / g) (y / g)) ∙ ap₂ gcd top bottom ∙ sym (NatL.one-mul g));
    }

-- ---- two fractions that are one: x / b = y / c, both in lowest terms

pub same-bottom : (x y b c : ℕ) → gcd x b ≡ 1 → gcd y c ≡ 1 → x * c ≡ y * b → b ≡ c
same-bottom x y b c p q e =
    NatL.dvd_antisymm (divides-other x b c p (subst (λ n. b ∣ n) (sym e) (NatL.dvd-mul_left b y)))
    (divides-other y c b q (subst (λ n. c ∣ n) e (NatL.dvd-mul_left c x)))
