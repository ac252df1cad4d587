-- Where the first wrong word of those past a place falls: on a wrong one of them, on the line's end where one is missing, or, where all are right, on the one behind them or the line's end.
use Prim.Native.Nat.{ℕ, zero, suc, ◌+◌, ◌<◌}
use mathlib.Core.Path.{◌≡◌, refl, sym, ap, subst, ◌∙◌}
use mathlib.Core.Bool.{Bool, true, false, cond}
use mathlib.Core.List.{List, [], ◌∷◌, ◌++◌, append-nil, append_assoc}
use native.Mathlib.Omega.{arith}
use lib.ListN.{length, take, drop, length-append}
use lib.Seq.{drop_at}
use Rattle.rules.specs.Reading.Lines.{run, after, every, starts, words_of}
use Rattle.rules.specs.Reading.Numerals.{digits}
use Rattle.rules.specs.Reading.Numbers.{unsigned, exponent_of, numeral_with, numeral_of, number_of}
use Rattle.text.specs.WordsFrom.{word_end}
use Rattle.pointing.specs.Pointing.{part, word_spot, right, first_wrong}
use Rattle.pointing.specs.declared.spots.Spot.{Spot}
use Rattle.pointing.specs.declared.words.Wanted.{Wanted}
use Rattle.pointing.specs.declared.words.Wanted.TheVariants as W
use Rattle.pointing.proofs.Meant.{AWord, LineEnd, All, OneOf, Amiss, a-wrong-one, one-missing, one-too-many}
use Rattle.pointing.proofs.WordPlaces.{at, Between, Step, step, spot-none}

-- a word of which something holds is one of which what follows from it holds
following : {Holds Follows : List (List ℕ) → List ℕ → Type 0} {p : ℕ} {l : List ℕ} {s : Spot}
    → ((ahead : List (List ℕ)) (w : List ℕ) → Holds ahead w → Follows ahead w) → AWord Holds p l s → AWord Follows p l s
following f a = record {
  before = a.before;
  word = a.word;
  after = a.after;
  parts = a.parts;
  words = a.words;
  holds = f (words_of a.before) a.word a.holds;
}

abbrev AllRight : Wanted → List (List ℕ) → Type 0
AllRight wanted = All (right wanted)

-- the words ahead are those before a place and others that are right
abbrev Passed : Wanted → List ℕ → ℕ → List (List ℕ) → List (List ℕ) → Type 0
Passed wanted l q ahead vs = (ahead ≡ words_of (take q l) ++ vs) × AllRight wanted vs

data Falls (wanted : Wanted) (k p : ℕ) (l : List ℕ) (q : ℕ) (s : Spot) : Type 0 where
  on-wrong : AWord (λ ahead w. (vs : List (List ℕ)) × Passed wanted l q ahead vs × (length vs < k) × (right wanted w ≡ false)) p l s → Falls wanted k p l q s
  on-missing : length (words_of (drop q l)) < k → AllRight wanted (words_of (drop q l)) → LineEnd p l s → Falls wanted k p l q s
  behind : AWord (λ ahead w. (vs : List (List ℕ)) × Passed wanted l q ahead vs × (length vs ≡ k)) p l s → Falls wanted k p l q s
  all_right : length (words_of (drop q l)) ≡ k → AllRight wanted (words_of (drop q l)) → LineEnd p l s → Falls wanted k p l q s

-- no bytes are never what is wanted
empty-wrong : (wanted : Wanted) → right wanted [] ≡ false
unfolding right digits starts every number_of numeral_of numeral_with unsigned exponent_of run after
empty-wrong W.Digits = refl
empty-wrong W.BoundForm = refl
empty-wrong W.BoundValue = refl
empty-wrong W.SampleForm = refl
empty-wrong W.SampleValue = refl

-- past a word that is right
past-right : (wanted : Wanted) (k p : ℕ) (l : List ℕ) (q : ℕ) (s : Spot) (w : List ℕ) (ws : List (List ℕ)) → words_of (drop q l) ≡ w ∷ ws → Step l q w ws → right wanted w ≡ true
    → Falls wanted k p l (word_end l q) s → Falls wanted (suc k) p l q s
past-right wanted k p l q s w ws left st so = by
  where
    one_fewer : length (words_of (drop q l)) ≡ suc (length (words_of (drop (word_end l q) l)))
    one_fewer = ap length left ∙ ap (λ (vs : List (List ℕ)). suc (length vs)) (sym st.next)

    all-from-here : AllRight wanted (words_of (drop (word_end l q) l)) → AllRight wanted (words_of (drop q l))
    all-from-here all = subst (AllRight wanted) (sym left) (so, subst (AllRight wanted) st.next all)

    from-here : (ahead vs : List (List ℕ)) → Passed wanted l (word_end l q) ahead vs → Passed wanted l q ahead (w ∷ vs)
    from-here ahead vs h = (h.0 ∙ ap (λ (xs : List (List ℕ)). xs ++ vs) st.passed ∙ append_assoc (words_of (take q l)) (w ∷ []) vs, (so, h.1))

    by : Falls wanted k p l (word_end l q) s → Falls wanted (suc k) p l q s
    by (on-wrong a) = on-wrong (following (λ ahead v h. (w ∷ h.0, from-here ahead h.0 h.1, omega (arith, h.2), h.3)) a)
    by (on-missing n all e) = on-missing (omega (arith, n, one_fewer)) (all-from-here all) e
    by (behind a) = behind (following (λ ahead v h. (w ∷ h.0, from-here ahead h.0 h.1, omega (arith, h.2))) a)
    by (all_right n all e) = all_right (omega (arith, n, one_fewer)) (all-from-here all) e

falls : (wanted : Wanted) (k p : ℕ) (l : List ℕ) (q : ℕ) → Between l q → Falls wanted k p l q (at p (first_wrong wanted k l q))
unfolding first_wrong
falls wanted zero p l q b = by (words_of (drop q l)) refl
  where
    by : (ws : List (List ℕ)) → words_of (drop q l) ≡ ws → Falls wanted 0 p l q (at p (word_spot l q))
    by [] e = all_right (ap length e) (subst (AllRight wanted) (sym e) tt) (spot-none p l q b.inside e)
    by (w ∷ ws) e = behind ((step l q w ws b e).is_word _ p ([], (sym (append-nil _), tt), refl))
falls wanted (suc k) p l q b = by (words_of (drop q l)) refl (falls wanted k p l (word_end l q))
  where
    by : (ws : List (List ℕ)) → words_of (drop q l) ≡ ws → (Between l (word_end l q) → Falls wanted k p l (word_end l q) (at p (first_wrong wanted k l (word_end l q))))
        → Falls wanted (suc k) p l q (at p (cond (right wanted (part l (word_spot l q))) (first_wrong wanted k l (word_end l q)) (word_spot l q)))
    by [] e again =
        let end : LineEnd p l (at p (word_spot l q)) = spot-none p l q b.inside e in
        let none : part l (word_spot l q) ≡ [] = rw end.empty refl in
        rw (none, empty-wrong wanted) (on-missing (omega (arith, ap length e)) (subst (AllRight wanted) (sym e) tt) end)
    by (w ∷ ws) e again = rw st.found (split (right wanted w) refl)
      where
        st : Step l q w ws
        st = step l q w ws b e

        split : (t : Bool) → right wanted w ≡ t → Falls wanted (suc k) p l q (at p (cond t (first_wrong wanted k l (word_end l q)) (word_spot l q)))
        split true so = past-right wanted k p l q _ w ws e st so (again st.between)
        split false so = on-wrong (st.is_word _ p ([], (sym (append-nil _), tt), omega arith, so))

module _ (wanted : Wanted) (k : ℕ) (l : List ℕ) (q : ℕ) (w : List ℕ) (ws : List (List ℕ)) (st : Step l q w ws) where
  goes-past : right wanted w ≡ true → first_wrong wanted (suc k) l q ≡ first_wrong wanted k l (word_end l q)
  unfolding first_wrong
  goes-past so = rw (st.found, so) refl

  stops-here : right wanted w ≡ false → first_wrong wanted (suc k) l q ≡ word_spot l q
  unfolding first_wrong
  stops-here so = rw (st.found, so) refl

-- what stands ahead of a word, and the word
abbrev Being : List (List ℕ) → List ℕ → List (List ℕ) → List ℕ → Type 0
Being vs w ahead v = (ahead ≡ vs) × (v ≡ w)

-- past words that are right it falls on the wrong one behind them
reaches : (wanted : Wanted) (k p : ℕ) (l : List ℕ) (q : ℕ) (vs : List (List ℕ)) (w : List ℕ) (us : List (List ℕ)) → Between l q → words_of (drop q l) ≡ vs ++ (w ∷ us)
    → AllRight wanted vs → length vs < k → right wanted w ≡ false → AWord (Being (words_of (take q l) ++ vs) w) p l (at p (first_wrong wanted k l q))
reaches wanted zero p l q vs w us b left all n wrong = absurd (omega arith)
reaches wanted (suc k) p l q [] w us b left all n wrong =
    let st : Step l q w us = step l q w us b left in
    subst (λ (s : Spot). AWord (Being (words_of (take q l) ++ []) w) p l (at p s)) (sym (stops-here wanted k l q w us st wrong)) (st.is_word _ p (sym (append-nil _), refl))
reaches wanted (suc k) p l q (v ∷ vs) w us b left all n wrong =
    let st : Step l q v (vs ++ (w ∷ us)) = step l q v (vs ++ (w ∷ us)) b left in
    let moved : words_of (take (word_end l q) l) ++ vs ≡ words_of (take q l) ++ (v ∷ vs) = ap (λ (ws : List (List ℕ)). ws ++ vs) st.passed ∙ append_assoc (words_of (take q l)) (v ∷ []) vs in
    subst (λ (s : Spot). AWord (Being (words_of (take q l) ++ (v ∷ vs)) w) p l (at p s)) (sym (goes-past wanted k l q v (vs ++ (w ∷ us)) st all.0))
    (following (λ ahead x h. (h.0 ∙ moved, h.1)) (reaches wanted k p l (word_end l q) vs w us st.between st.next all.1 (omega (arith, n)) wrong))

-- ---- by a test that has the same answers

all_same : (f g : List ℕ → Bool) → ((w : List ℕ) → f w ≡ g w) → (ws : List (List ℕ)) → All f ws → All g ws
all_same f g e [] h = tt
all_same f g e (w ∷ ws) h = (sym (e w) ∙ h.0, all_same f g e ws h.1)

module _ (test : List ℕ → Bool) (wanted : Wanted) (same : (w : List ℕ) → right wanted w ≡ test w) (skip count p : ℕ) (l : List ℕ) (q : ℕ) (b : Between l q)
    (skipped : length (words_of (take q l)) ≡ skip) where
  counted : (ahead vs : List (List ℕ)) → ahead ≡ words_of (take q l) ++ vs → length ahead ≡ skip + length vs
  counted ahead vs e = ap length e ∙ length-append (words_of (take q l)) vs ∙ ap (λ (k : ℕ). k + length vs) skipped

  all_past : (ahead vs : List (List ℕ)) → ahead ≡ words_of (take q l) ++ vs → All test vs → All test (drop skip ahead)
  all_past ahead vs e all = subst (All test) (sym (ap (drop skip) e ∙ drop_at (words_of (take q l)) vs skip skipped)) all

  -- not just so many that are right stand past the place
  pub amiss : (length (words_of (drop q l)) ≡ count → All test (words_of (drop q l)) → ⊥) → Amiss test skip count p l (at p (first_wrong wanted count l q))
  amiss not-all = by (falls wanted count p l q b)
    where
      tested : (ws : List (List ℕ)) → AllRight wanted ws → All test ws
      tested = all_same (right wanted) test same

      by : {s : Spot} → Falls wanted count p l q s → Amiss test skip count p l s
      by (on-wrong a) = a-wrong-one (following (λ ahead w h.
          let c = counted ahead h.0 h.1.0 in
          (omega (arith, c), omega (arith, c, h.2), all_past ahead h.0 h.1.0 (tested h.0 h.1.1), sym (same w) ∙ h.3)) a)
      by (on-missing k all e) =
          one-missing (omega (arith, k, counted (words_of l) (words_of (drop q l)) b.apart)) (all_past (words_of l) (words_of (drop q l)) b.apart (tested (words_of (drop q l)) all)) e
      by (behind a) = one-too-many (following (λ ahead w h.
          (omega (arith, h.2, counted ahead h.0 h.1.0), all_past ahead h.0 h.1.0 (tested h.0 h.1.1))) a)
      by (all_right k all e) = absurd (not-all k (tested (words_of (drop q l)) all))

  -- of those past the place this one is the first wrong one
  pub one_of : (Holds : List ℕ → Type 0) (vs : List (List ℕ)) (w : List ℕ) (us : List (List ℕ)) → words_of (drop q l) ≡ vs ++ (w ∷ us) → length vs < count → All test vs → test w ≡ false → Holds w
      → OneOf test skip count Holds p l (at p (first_wrong wanted count l q))
  one_of Holds vs w us left n all wrong holds =
      following (λ ahead v h.
      let c = counted ahead vs h.0 in
      (omega (arith, c), omega (arith, c, n), all_past ahead vs h.0 all, subst Holds (sym h.1) holds))
      (reaches wanted count p l q vs w us b left (all_same test (right wanted) (λ v. sym (same v)) vs all) n (same w ∙ wrong))
