-- Shares that carry weight: what holds of all of them, and of one.
use mathlib.Core.Path.{◌≡◌, refl}
use mathlib.Core.Bool.{Bool, true, false}
use mathlib.Core.List.{List, [], ◌∷◌}
use lib.IntN.{pos}
use lib.Signed.{◌<ℤ◌, lt_z, lt_z_yes, lt_z_no, clash_ℤ}
use Rattle.whole.proofs.Held.{passed, failed}
use Rattle.rules.specs.Demands.{Carried, Any, here, there}
use Rattle.rules.specs.declared.Share.{Share}

-- one that carries weight and has a property
abbrev pub SomeCarried : (Share → Type 0) → List Share → Type 0
SomeCarried P ss = Any (λ s. (pos 0 <ℤ s.weight) × P s) ss

-- what holds of all that carry weight, as what follows from it
pub carried-so : {P Q : Share → Type 0} → ((s : Share) → P s → Q s) → (ss : List Share) → Carried P ss → Carried Q ss
carried-so f [] all = tt
carried-so f (s ∷ ss) all = (λ w. f s (all.0 w), carried-so f ss all.1)

carries : (s : Share) → Dec (pos 0 <ℤ s.weight)
carries s = by (lt_z (pos 0) s.weight) refl
  where
    by : (t : Bool) → lt_z (pos 0) s.weight ≡ t → Dec (pos 0 <ℤ s.weight)
    by true e = yes (lt_z_yes (passed _ e))
    by false e = no (λ h. clash_ℤ h (lt_z_no (failed _ e)))

-- whatever has not P has Q: where not all that carry weight have Q, one of them has P
pub some-carried : {P Q : Share → Type 0} → ((s : Share) → Dec (P s)) → ((s : Share) → (P s → ⊥) → Q s) → (ss : List Share) → (Carried Q ss → ⊥) → SomeCarried P ss
some-carried has else [] h = absurd (h tt)
some-carried {P} {Q} has else (s ∷ ss) h = by (carries s) (has s) (some-carried has else ss)
  where
    by : Dec (pos 0 <ℤ s.weight) → Dec (P s) → ((Carried Q ss → ⊥) → SomeCarried P ss) → SomeCarried P (s ∷ ss)
    by (yes w) (yes p) later = here (w, p)
    by (yes w) (no n) later = there (later (λ all. h (λ w. else s n, all)))
    by (no n) p later = there (later (λ all. h (λ w. absurd (n w), all)))
