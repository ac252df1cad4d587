-- Lists of checks, of which the first that fails decides; joined lists decide as the parts do, one after the other. And the judge's own parts, put so.
use mathlib.Core.Path.{◌≡◌, refl, sym, ap, ap₂, ◌∙◌}
use mathlib.Core.Logic.{◌↔◌}
use mathlib.Core.Bool.{Bool, true, false, cond}
use mathlib.Core.List.{List, [], ◌∷◌, ◌++◌}
use Rattle.rules.specs.Reading.Judge.{Fault, Verdict, State, first, go, need, refuse, take_in, unless}
use Rattle.rules.specs.declared.Refusal.{Refusal}
use Rattle.rules.proofs.Tests.{need-none, no-some, none-need}
use Rattle.signature.specs.Order.{Check, FirstFailing, Met}
use Rattle.std.specs.Prelude.{Err, None, Ok, Some}
use Rattle.rules.specs.Results.{Content}

-- ---- lists of checks

-- the refusal of the first check that fails, if one does
unfoldable pub decided : List Check → Fault
decided [] = None
decided (c ∷ cs) = need c.0 c.1 (decided cs)

pub decided-append : (before later : List Check) → decided (before ++ later) ≡ first (decided before) (decided later)
unfolding decided need first
decided-append [] later = refl
decided-append ((true, r) ∷ before) later = decided-append before later
decided-append ((false, r) ∷ before) later = refl

-- so two faults, of which the first decides, are two lists, one after the other
pub one-after : (before later : List Check) {f g : Fault} → f ≡ decided before → g ≡ decided later → first f g ≡ decided (before ++ later)
one-after before later e h = ap₂ first e h ∙ sym (decided-append before later)

pub decided-cond : (t : Bool) (cs : List Check) → decided (cond t cs []) ≡ cond t (decided cs) None
unfolding decided
decided-cond true cs = refl
decided-cond false cs = refl

-- it decides none exactly where each is met
pub decided-met : (cs : List Check) → (decided cs ≡ None) ↔ Met cs
unfolding decided
decided-met [] = (λ h. tt, λ m. refl)
decided-met (c ∷ cs) = (
  λ h. let p = need-none c.0 c.1 (decided cs) h in (p.0, (decided-met cs).0 p.1),
  λ m. none-need c.0 c.1 (decided cs) m.0 ((decided-met cs).1 m.1),
)

-- and a refusal exactly where the first that fails has it
pub decided-first : (r : Refusal) (cs : List Check) → (decided cs ≡ Some r) ↔ FirstFailing r cs
unfolding decided need first
decided-first r cs = (to cs, λ f. ap decided f.parted ∙ decided-append f.before _ ∙ rw ((decided-met f.before).1 f.met, f.fails))
  where
    to : (cs : List Check) → decided cs ≡ Some r → FirstFailing r cs
    to [] h = absurd (no-some r (sym h))
    to ((false, s) ∷ cs) h =
        let e : s ≡ r = cc in
        record { before = []; test = false; later = cs; parted = ap (λ (x : Refusal). (false, x) ∷ cs) e; met = tt; fails = refl }
    to ((true, s) ∷ cs) h =
        let f = to cs h in
        record {
          before = (true, s) ∷ f.before;
          test = f.test;
          later = f.later;
          parted = ap (λ (xs : List Check). (true, s) ∷ xs) f.parted;
          met = (refl, f.met);
          fails = f.fails;
        }

-- no two refusals are so
pub failing-one : {r s : Refusal} {cs : List Check} → FirstFailing r cs → FirstFailing s cs → r ≡ s
failing-one {r} {s} {cs} f g = let e : ◌≡◌ {A = Fault} (Some r) (Some s) = sym ((decided-first r cs).1 f) ∙ (decided-first s cs).1 g in cc

-- ---- the judge's own parts, one after the other

pub first-assoc : (f g h : Fault) → first (first f g) h ≡ first f (first g h)
unfolding first
first-assoc None g h = refl
first-assoc (Some r) g h = refl

pub first-need : (t : Bool) (r : Refusal) (f : Fault) → first (need t r None) f ≡ need t r f
unfolding first need
first-need true r f = refl
first-need false r f = refl

-- what is wrong with what a line says
abbrev pub fault_in : Content → Fault
fault_in (Ok i) = None
fault_in (Err r) = Some r

abbrev pub fault_of : Verdict → Fault
fault_of (go st) = None
fault_of (refuse r) = Some r

pub fault-unless : (f : Fault) (j : Verdict) → fault_of (unless f j) ≡ first f (fault_of j)
unfolding unless first
fault-unless None j = refl
fault-unless (Some r) j = refl

pub fault-take-in : (st : State) (c : Content) → fault_of (take_in st c) ≡ fault_in c
unfolding take_in
fault-take-in st (Ok i) = refl
fault-take-in st (Err r) = refl

pub fault-refuse : (j : Verdict) (r : Refusal) → (j ≡ refuse r) ↔ (fault_of j ≡ Some r)
fault-refuse j r = (ap fault_of, split j)
  where
    split : (j : Verdict) → fault_of j ≡ Some r → j ≡ refuse r
    split (go st) h = absurd (no-some r (sym h))
    split (refuse s) h = let e : s ≡ r = cc in ap refuse e

pub fault-go : (j : Verdict) → ((st : State) × (j ≡ go st)) ↔ (fault_of j ≡ None)
fault-go j = (λ h. ap fault_of h.1, split j)
  where
    split : (j : Verdict) → fault_of j ≡ None → (st : State) × (j ≡ go st)
    split (go st) h = (st, refl)
    split (refuse s) h = absurd (no-some s h)

-- what a test asks for, and else a refusal
pub fault-cond : (t : Bool) (c : Content) (r : Refusal) → fault_in (cond t c (Err r)) ≡ need t r (fault_in c)
unfolding need
fault-cond true c r = refl
fault-cond false c r = refl
