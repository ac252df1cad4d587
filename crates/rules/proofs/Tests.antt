-- What a test that came out one way says of its parts, and back.
use Prim.Native.Nat.{ℕ}
use mathlib.Core.Path.{◌≡◌, refl}
use mathlib.Core.Bool.{Bool, true, false, ◌&&◌, ◌||◌, and-false, true≢false, false≢true}
use mathlib.Core.Logic.{◌⊎◌, inl, inr}
use native.Mathlib.Omega.{arith}
use Rattle.rules.specs.Reading.Judge.{Fault, need, first}
use Rattle.rules.specs.declared.Refusal.{Refusal}
use Rattle.std.specs.Prelude.{None, Option, Some}

pub no-some : {A : Type 0} (a : A) → ◌≡◌ {A = Option A} (Some a) None → ⊥
no-some a e = let z : ◌≡◌ {A = ℕ} 0 1 = cc in omega arith

pub no_true : true ≡ false → ⊥
no_true e = true≢false e

pub and_both : (a b : Bool) → a && b ≡ true → (a ≡ true) × (b ≡ true)
and_both true b h = (refl, h)
and_both false b h = absurd (false≢true h)

pub both-and : (a b : Bool) → a ≡ true → b ≡ true → a && b ≡ true
both-and a b p q = rw p q

-- tried one after the other, the second fails or the first
pub and-fails : (a b : Bool) → (b ≡ false) ⊎ (a ≡ false) → a && b ≡ false
and-fails a b (inl q) = rw q (and-false a)
and-fails a b (inr p) = rw p

pub or-none : (a b : Bool) → a || b ≡ false → (a ≡ false) × (b ≡ false)
or-none true b h = absurd (true≢false h)
or-none false b h = (refl, h)

pub none_or : (a b : Bool) → a ≡ false → b ≡ false → a || b ≡ false
none_or a b p q = rw p q

-- ---- the checks of the judge

pub need-none : (t : Bool) (r : Refusal) (f : Fault) → need t r f ≡ None → (t ≡ true) × (f ≡ None)
unfolding need
need-none true r f h = (refl, h)
need-none false r f h = absurd (no-some r h)

pub none-need : (t : Bool) (r : Refusal) (f : Fault) → t ≡ true → f ≡ None → need t r f ≡ None
unfolding need
none-need t r f p q = rw p q

pub first-none : (f g : Fault) → first f g ≡ None → (f ≡ None) × (g ≡ None)
unfolding first
first-none None g h = (refl, h)
first-none (Some r) g h = absurd (no-some r h)

pub none_first : (f g : Fault) → f ≡ None → g ≡ None → first f g ≡ None
unfolding first
none_first f g p q = rw p q
