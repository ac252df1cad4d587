-- Two readings beside each other. Where the first judges each line and the end as the second does, or refuses, it answers as the second does, or stops somewhere,
-- and the second refuses nothing before that.
use Prim.Native.Nat.{ℕ, suc, ◌+◌, ◌≤◌}
use mathlib.Core.Path.{◌≡◌, refl, ap, sym, ◌∙◌}
use mathlib.Core.Logic.{◌⊎◌, inl, inr}
use mathlib.Core.List.{List, [], ◌∷◌, ◌++◌}
use native.Mathlib.Omega.{arith}
use lib.ListN.{length}
use Rattle.rules.specs.Reading.{finish}
use Rattle.rules.specs.Reading.Judge.{State, Verdict, go, refuse}
use Rattle.rules.specs.declared.Refusal.{Refusal}
use Rattle.rules.proofs.Reading.Refusals.{beginning}
use Rattle.signature.specs.Before.{Judges, line_after, read_lines_by}
use Rattle.signature.specs.Order.{Leads}
use Rattle.signature.proofs.Reading.Parts.{led, no-sooner}
use Rattle.std.specs.Prelude.{Some}
use Rattle.rules.specs.Results.{refused_on}

-- two readings, and what marks the state, the lines left and the refusal where the first stops
module _ (one other : Judges) (Marked : State → List (List ℕ) → Refusal → Type 0) where
  -- both let the lines before pass, and then the first refuses
  pub record Stops (p n : ℕ) (st : State) (ls : List (List ℕ)) : Type 0 where
    pub before : List (List ℕ)
    pub left : List (List ℕ)
    pub lines_so : ls ≡ before ++ left
    pub state : State
    pub led-first : Leads one.line p st before state
    pub led-second : Leads other.line p st before state
    pub refusal : Refusal
    pub marked : Marked state left refusal
    pub refused : read_lines_by one p n st ls ≡ refused_on refusal (line_after (n + length before) left)

  abbrev pub SameOrStops : ℕ → ℕ → State → List (List ℕ) → Type 0
  SameOrStops p n st ls = (read_lines_by one p n st ls ≡ read_lines_by other p n st ls) ⊎ Stops p n st ls

  -- the second goes on from there
  pub goes-on : {p n : ℕ} {st : State} {ls : List (List ℕ)} (k : Stops p n st ls)
      → read_lines_by other p n st ls ≡ read_lines_by other (beginning p k.before) (n + length k.before) k.state k.left
  goes-on {p} {n} {st} k =
      ap (λ (vs : List (List ℕ)). read_lines_by other p n st vs) k.lines_so ∙ led other p n st k.state k.before k.left k.led-second

  -- so it refuses, if at all, on no earlier line
  pub not_earlier : {p n : ℕ} {st : State} {ls : List (List ℕ)} (k : Stops p n st ls) (r : Refusal) (m : ℕ) → read_lines_by other p n st ls ≡ refused_on r m
      → line_after (n + length k.before) k.left ≤ m
  not_earlier k r m e = no-sooner other _ _ k.state k.left r m (sym (goes-on k) ∙ e)

  module _ (p n : ℕ) (st : State) where
    stops-here : (ls : List (List ℕ)) (r : Refusal) → Marked st ls r → read_lines_by one p n st ls ≡ refused_on r (line_after n ls) → Stops p n st ls
    stops-here ls r marked e = record {
      before = [];
      left = ls;
      lines_so = refl;
      state = st;
      led-first = refl;
      led-second = refl;
      refusal = r;
      marked = marked;
      refused = e ∙ ap (λ (m : ℕ). refused_on r (line_after m ls)) (omega arith);
    }

    stops-later : (l : List ℕ) (ls : List (List ℕ)) (st' : State) → one.line st p l ≡ go st' → other.line st p l ≡ go st' → Stops (p + length l + 1) (suc n) st' ls → Stops p n st (l ∷ ls)
    unfolding read_lines_by
    stops-later l ls st' e f k = record {
      before = l ∷ k.before;
      left = k.left;
      lines_so = ap (λ (vs : List (List ℕ)). l ∷ vs) k.lines_so;
      state = k.state;
      led-first = (st', e, k.led-first);
      led-second = (st', f, k.led-second);
      refusal = k.refusal;
      marked = k.marked;
      refused = rw e (k.refused ∙ ap (λ (m : ℕ). refused_on k.refusal (line_after m k.left)) (omega arith));
    }

  -- of states that lines lead to, something may be known that each line which passes leaves true
  module _ (Holds : State → Type 0)
      (keep : (st : State) (p : ℕ) (l : List ℕ) (st' : State) → other.line st p l ≡ go st' → Holds st → Holds st')
      (line : (st : State) (p : ℕ) (l : List ℕ) (ls : List (List ℕ)) → Holds st → (one.line st p l ≡ other.line st p l) ⊎ ((r : Refusal) × (one.line st p l ≡ refuse r) × Marked st (l ∷ ls) r))
      (end : (st : State) → Holds st → (one.end st ≡ other.end st) ⊎ ((r : Refusal) × (one.end st ≡ Some r) × Marked st [] r)) where
    pub walk-beside : (p n : ℕ) (st : State) (ls : List (List ℕ)) → Holds st → SameOrStops p n st ls
    unfolding read_lines_by
    walk-beside p n st [] h = by (end st h)
      where
        by : (one.end st ≡ other.end st) ⊎ ((r : Refusal) × (one.end st ≡ Some r) × Marked st [] r) → SameOrStops p n st []
        by (inl e) = inl (ap (finish n st) e)
        by (inr (r, e, k)) = inr (stops-here p n st [] r k (ap (finish n st) e))
    walk-beside p n st (l ∷ ls) h = by (line st p l ls h) (other.line st p l) refl (λ st'. walk-beside (p + length l + 1) (suc n) st' ls)
      where
        on : (st' : State) → one.line st p l ≡ go st' → other.line st p l ≡ go st' → SameOrStops (p + length l + 1) (suc n) st' ls → SameOrStops p n st (l ∷ ls)
        on st' e f (inl k) = inl (rw (e, f) k)
        on st' e f (inr k) = inr (stops-later p n st l ls st' e f k)

        by : (one.line st p l ≡ other.line st p l) ⊎ ((r : Refusal) × (one.line st p l ≡ refuse r) × Marked st (l ∷ ls) r) → (j : Verdict) → other.line st p l ≡ j
            → ((st' : State) → Holds st' → SameOrStops (p + length l + 1) (suc n) st' ls) → SameOrStops p n st (l ∷ ls)
        by (inl e) (go st') f next = on st' (e ∙ f) f (next st' (keep st p l st' f h))
        by (inl e) (refuse r) f next = inl (rw (e ∙ f, f) refl)
        by (inr (r, e, k)) j f next = inr (stops-here p n st (l ∷ ls) r k (rw e refl))
