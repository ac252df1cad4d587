-- A list is its longest first run of a kind and what stands after it, and nothing else is.
use Prim.Native.Nat.{ℕ, ◌<◌}
use mathlib.Core.Path.{◌≡◌, refl, sym, ap}
use mathlib.Core.Bool.{Bool, true, false, cond, ◌||◌}
use mathlib.Core.List.{List, [], ◌∷◌, ◌++◌}
use native.Mathlib.Omega.{arith}
use lib.ListN.{length}
use Rattle.rules.specs.Reading.Lines.{after, every, run, starts}
use Rattle.rules.proofs.Tests.{no_true, and_both, both-and}

module _ (kind : ℕ → Bool) where
  pub run-after : (l : List ℕ) → l ≡ run kind l ++ after kind l
  unfolding run after
  run-after [] = refl
  run-after (b ∷ rest) = split (kind b) (run-after rest)
    where
      split : (t : Bool) → rest ≡ run kind rest ++ after kind rest → b ∷ rest ≡ cond t (b ∷ run kind rest) [] ++ cond t (after kind rest) (b ∷ rest)
      split true ih = ap (λ (l : List ℕ). b ∷ l) ih
      split false ih = refl

  pub run-every : (l : List ℕ) → every kind (run kind l) ≡ true
  unfolding run every
  run-every [] = refl
  run-every (b ∷ rest) = split (kind b) refl (run-every rest)
    where
      split : (t : Bool) → kind b ≡ t → every kind (run kind rest) ≡ true → every kind (cond t (b ∷ run kind rest) []) ≡ true
      split true e ih = rw e ih
      split false e ih = refl

  pub after-stops : (l : List ℕ) → starts kind (after kind l) ≡ false
  unfolding after starts
  after-stops [] = refl
  after-stops (b ∷ rest) = split (kind b) refl (after-stops rest)
    where
      split : (t : Bool) → kind b ≡ t → starts kind (after kind rest) ≡ false → starts kind (cond t (after kind rest) (b ∷ rest)) ≡ false
      split true e ih = ih
      split false e ih = e

  pub run-starts : (l : List ℕ) → starts kind (run kind l) ≡ starts kind l
  unfolding run starts
  run-starts [] = refl
  run-starts (b ∷ rest) = split (kind b) refl
    where
      split : (t : Bool) → kind b ≡ t → starts kind (cond t (b ∷ run kind rest) []) ≡ kind b
      split true e = refl
      split false e = sym e

  pub run-append : (a b : List ℕ) → every kind a ≡ true → starts kind b ≡ false → (run kind (a ++ b) ≡ a) × (after kind (a ++ b) ≡ b)
  unfolding run after every starts
  run-append [] [] h s = (refl, refl)
  run-append [] (c ∷ b) h s = (rw s, rw s)
  run-append (x ∷ a) b h s =
      let e = and_both (kind x) (every kind a) h in
      let ih = run-append a b e.1 s in
      (rw e.0 (ap (λ (l : List ℕ). x ∷ l) ih.0), rw e.0 ih.1)

  pub starts-append : (a b : List ℕ) → starts kind a ≡ true → starts kind (a ++ b) ≡ true
  unfolding starts
  starts-append [] b h = absurd (no_true (sym h))
  starts-append (x ∷ a) b h = h

  pub every_append : (a b : List ℕ) → every kind a ≡ true → every kind b ≡ true → every kind (a ++ b) ≡ true
  unfolding every
  every_append [] b p q = q
  every_append (x ∷ a) b p q =
      let h = and_both (kind x) (every kind a) p in
      both-and (kind x) (every kind (a ++ b)) h.0 (every_append a b h.1 q)

  pub append-every : (a b : List ℕ) → every kind (a ++ b) ≡ true → (every kind a ≡ true) × (every kind b ≡ true)
  unfolding every
  append-every [] b h = (refl, h)
  append-every (x ∷ a) b h =
      let e = and_both (kind x) (every kind (a ++ b)) h in
      let ih = append-every a b e.1 in
      (both-and (kind x) (every kind a) e.0 ih.0, ih.1)

  -- after bytes of a kind, if there are any, one more starts a list with it
  pub starts-either : (a b : List ℕ) → every kind a ≡ true → starts kind (a ++ b) ≡ starts kind a || starts kind b
  unfolding every starts
  starts-either [] b h = refl
  starts-either (x ∷ a) b h = rw (and_both (kind x) (every kind a) h).0

  -- bytes of a kind, at least one, start with one
  pub every-starts : (l : List ℕ) → 0 < length l → every kind l ≡ true → starts kind l ≡ true
  unfolding every starts
  every-starts [] h e = absurd (omega arith)
  every-starts (b ∷ rest) h e = (and_both (kind b) (every kind rest) e).0

-- bytes of one kind are of every kind that has all its bytes
pub every-other : (kind other : ℕ → Bool) → ((b : ℕ) → kind b ≡ true → other b ≡ true) → (l : List ℕ) → every kind l ≡ true → every other l ≡ true
unfolding every
every-other kind other f [] h = refl
every-other kind other f (b ∷ rest) h =
    let e = and_both (kind b) (every kind rest) h in
    both-and (other b) (every other rest) (f b e.0) (every-other kind other f rest e.1)

-- a first byte of one kind is of no kind that shares no byte with it
pub starts_other : (kind other : ℕ → Bool) → ((b : ℕ) → kind b ≡ true → other b ≡ false) → (l : List ℕ) → starts kind l ≡ true → starts other l ≡ false
unfolding starts
starts_other kind other f [] h = refl
starts_other kind other f (b ∷ rest) h = f b h
