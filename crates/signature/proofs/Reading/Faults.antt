-- What a word that is no value says: malformed where it spells no number, beyond the limit and finer than the unit by the exact value.
use Prim.Native.Nat.{ℕ, ◌*◌, ◌/◌, ◌%◌, ◌≤◌, ◌<◌}
use mathlib.Core.Path.{◌≡◌, refl, sym, ap, ◌∙◌}
use mathlib.Core.Logic.{◌↔◌}
use mathlib.Core.Bool.{Bool, true, false, cond}
use mathlib.Core.List.{List}
use native.Mathlib.Nat.{div-add-mod', mul-mod_left}
use native.Mathlib.Omega.{arith}
use borrow.Author.Tests.{ltb-true, ltb-false, lt-ltb, le-ltb, eqb-false, ne_eqb}
use lib.Dec.{eqb, ltb}
use Rattle.rules.specs.Reading.Numerals.{Exceeds, FallsBetween, Numeral, Spells, over, signed, under}
use Rattle.rules.specs.Reading.Numbers.{number_of, numeral_of, settle, value_of}
use Rattle.rules.proofs.Reading.Numbers.{spells-of, of-spells}
use Rattle.std.specs.Prelude.{Err, None, Ok, Option, Some}
use Rattle.rules.specs.declared.NumberFault.TheVariants.{Beyond, Finer, Malformed}

-- a word spells one numeral at most
pub spelt-one : (w : List ℕ) (n m : Numeral) → Spells w n → Spells w m → n ≡ m
spelt-one w n m s t = let e : ◌≡◌ {A = Option Numeral} (Some n) (Some m) = sym (of-spells w n s) ∙ of-spells w m t in cc

module _ (places limit : ℕ) (w : List ℕ) where
  settle-formed : (neg : Bool) (p q : ℕ) → settle limit neg p q ≡ (Err Malformed) → ⊥
  unfolding settle
  settle-formed neg p q h = split (ltb (limit * q) p) (eqb (p % q) 0) h
    where
      split : (b z : Bool) → cond b (Err Beyond) (cond z (Ok (signed neg (p / q))) (Err Finer)) ≡ (Err Malformed) → ⊥
      split true z g = let z : ◌≡◌ {A = ℕ} 0 1 = cc in omega arith
      split false true g = let z : ◌≡◌ {A = ℕ} 0 1 = cc in omega arith
      split false false g = let z : ◌≡◌ {A = ℕ} 0 1 = cc in omega arith

  settle-beyond : (neg : Bool) (p q : ℕ) → settle limit neg p q ≡ (Err Beyond) → limit * q < p
  unfolding settle
  settle-beyond neg p q h = split (ltb (limit * q) p) refl (eqb (p % q) 0) h
    where
      split : (b : Bool) → ltb (limit * q) p ≡ b → (z : Bool) → cond b (Err Beyond) (cond z (Ok (signed neg (p / q))) (Err Finer)) ≡ (Err Beyond) → limit * q < p
      split true e z g = ltb-true _ _ e
      split false e true g = let z : ◌≡◌ {A = ℕ} 0 1 = cc in absurd (omega arith)
      split false e false g = let z : ◌≡◌ {A = ℕ} 0 1 = cc in absurd (omega arith)

  settle-finer : (neg : Bool) (p q : ℕ) → settle limit neg p q ≡ (Err Finer) → (p ≤ limit * q) × ((k : ℕ) → k * q ≡ p → ⊥)
  unfolding settle
  settle-finer neg p q h = split (ltb (limit * q) p) refl (eqb (p % q) 0) refl h
    where
      split : (b : Bool) → ltb (limit * q) p ≡ b → (z : Bool) → eqb (p % q) 0 ≡ z → cond b (Err Beyond) (cond z (Ok (signed neg (p / q))) (Err Finer)) ≡ (Err Finer)
          → (p ≤ limit * q) × ((k : ℕ) → k * q ≡ p → ⊥)
      split true e z f g = let z : ◌≡◌ {A = ℕ} 0 1 = cc in absurd (omega arith)
      split false e true f g = let z : ◌≡◌ {A = ℕ} 0 1 = cc in absurd (omega arith)
      split false e false f g = (ltb-false _ _ e, λ k m. eqb-false (p % q) 0 f (ap (λ (x : ℕ). x % q) (sym m) ∙ mul-mod_left k q))

  pub malformed : (number_of places limit w ≡ (Err Malformed)) ↔ ((n : Numeral) → Spells w n → ⊥)
  unfolding number_of
  malformed = (λ h n s. settle-formed n.negative (over places n) (under n) (rw (of-spells w n s) at h), λ f. split (numeral_of w) refl f)
    where
      split : (o : Option Numeral) → numeral_of w ≡ o → ((n : Numeral) → Spells w n → ⊥) → value_of places limit o ≡ (Err Malformed)
      split None e f = refl
      split (Some n) e f = absurd (f n (spells-of w n e))

  pub beyond : (number_of places limit w ≡ (Err Beyond)) ↔ Exceeds places limit w
  unfolding number_of settle
  beyond = (λ h. split (numeral_of w) refl h, λ f. rw (of-spells w f.numeral f.spelt, lt-ltb _ _ f.beyond))
    where
      split : (o : Option Numeral) → numeral_of w ≡ o → value_of places limit o ≡ (Err Beyond) → Exceeds places limit w
      split None e g = let z : ◌≡◌ {A = ℕ} 0 1 = cc in absurd (omega arith)
      split (Some n) e g = record { numeral = n; spelt = spells-of w n e; beyond = settle-beyond n.negative (over places n) (under n) g }

  pub finer : (number_of places limit w ≡ (Err Finer)) ↔ FallsBetween places limit w
  unfolding number_of settle
  finer = (λ h. split (numeral_of w) refl h, λ f. back f)
    where
      split : (o : Option Numeral) → numeral_of w ≡ o → value_of places limit o ≡ (Err Finer) → FallsBetween places limit w
      split None e g = let z : ◌≡◌ {A = ℕ} 0 1 = cc in absurd (omega arith)
      split (Some n) e g =
          let k = settle-finer n.negative (over places n) (under n) g in
          record { numeral = n; spelt = spells-of w n e; within = k.0; no_multiple = k.1 }

      back : FallsBetween places limit w → value_of places limit (numeral_of w) ≡ (Err Finer)
      back f =
          let p : ℕ = over places f.numeral in
          let q : ℕ = under f.numeral in
          let a : p % q ≡ 0 → ⊥ = λ z. f.no_multiple (p / q) (omega (arith, div-add-mod' p q)) in
          rw (of-spells w f.numeral f.spelt, le-ltb (limit * q) p f.within, ne_eqb (p % q) 0 a)
