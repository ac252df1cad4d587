-- A call of eleven numbers is the call of the description that they give, or the refusal of those that give none.
use mathlib.Core.Path.{◌≡◌, refl, ap, subst}
use mathlib.Core.List.{List}
use lib.IntN.{ℤ}
use Rattle.rules.specs.Boundary.{described_in, answered, called}
use Rattle.rules.specs.declared.Description.{Description}
use Rattle.std.specs.Prelude.{None, Option, Some}

module _ {A : Type 0} (refusal : A) (call : Description → A) where
  pub called-described : (eleven : List ℤ) {d : Description} → described_in eleven ≡ Some d → called refusal call eleven ≡ call d
  called-described eleven e = ap (answered refusal call) e

  pub called-none : (eleven : List ℤ) → described_in eleven ≡ None → called refusal call eleven ≡ refusal
  called-none eleven e = ap (answered refusal call) e

-- what holds of the refusal and of the call of every description holds of the call of eleven numbers
pub called-each : {A : Type 0} {refusal : A} {call : Description → A} (P : A → Type 0) → P refusal → ((d : Description) → P (call d)) → (eleven : List ℤ) → P (called refusal call eleven)
called-each {A} {refusal} {call} P r c eleven = by (described_in eleven)
  where
    by : (o : Option Description) → P (answered refusal call o)
    by None = r
    by (Some d) = c d

-- a call that did not refuse was given a description
pub record Given {A : Type 0} (call : Description → A) (eleven : List ℤ) (answer : A) : Type 0 where
  pub d : Description
  pub described : described_in eleven ≡ Some d
  pub answer-so : answer ≡ call d

pub given : {A : Type 0} {refusal : A} {call : Description → A} (eleven : List ℤ) (Fine : A → Type 0) → (Fine refusal → ⊥) → Fine (called refusal call eleven)
    → Given call eleven (called refusal call eleven)
given {A} {refusal} {call} eleven Fine not-fine fine = by (described_in eleven) refl
  where
    by : (o : Option Description) → described_in eleven ≡ o → Given call eleven (called refusal call eleven)
    by None e = absurd (not-fine (subst Fine (called-none refusal call eleven e) fine))
    by (Some d) e = record { d = d; described = e; answer-so = called-described refusal call eleven e }
