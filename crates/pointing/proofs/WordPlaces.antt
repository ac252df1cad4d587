-- A line's words by places: a place between words parts them, and what stands next past it is a word of the line.
use Prim.Native.Nat.{ℕ, ◌+◌, ◌-◌, ◌≤◌}
use mathlib.Core.Path.{◌≡◌, refl, sym, ap, ap₂, ◌∙◌}
use mathlib.Core.Bool.{Bool, true, false, cond, not}
use mathlib.Core.List.{List, [], ◌∷◌, ◌++◌, append-nil, append_assoc}
use native.Mathlib.Omega.{arith}
use borrow.Author.Tests.{eq-eqb, eqb-true, ne_eqb, not-true}
use lib.Dec.{eqb}
use lib.ListN.{length, take, drop, length-append, length-drop, take-append-drop}
use lib.Seq.{length-take-le, drop-drop, take-add, take_at}
use Rattle.rules.specs.Reading.Lines.{blank, in_word, every, run, starts, on_first, words_of}
use Rattle.rules.proofs.Tests.{no_true, and_both}
use Rattle.rules.proofs.Reading.Runs.{after-stops, run-every}
use Rattle.scan.proofs.Runs.{drop-to-end, take-run}
use Rattle.text.specs.WordsFrom.{word_start, word_end}
use Rattle.text.proofs.WordsFrom.{WordFound, words-next, words-none}
use Rattle.pointing.specs.Pointing.{part, rest_from, word_spot}
use Rattle.pointing.specs.declared.spots.Spot.{Spot}
use Rattle.pointing.proofs.Inside.{start-inside, end-inside}
use Rattle.pointing.proofs.Meant.{Parts, AWord, LineEnd}

-- a spot of a line that begins at place p of its file
abbrev pub at : ℕ → Spot → Spot
at p t = record { place = p + t.place; length = t.length }

-- from a place on to the end of the line
pub rest-parts : (p : ℕ) (l : List ℕ) (n : ℕ) → n ≤ length l → Parts p l (at p (rest_from l n)) (take n l) (drop n l) []
rest-parts p l n h = record {
  line = sym (take-append-drop n l) ∙ ap (λ (x : List ℕ). take n l ++ x) (sym (append-nil (drop n l)));
  place = omega (arith, length-take-le n l h);
  long = sym (length-drop n l);
}

-- ---- the words of two lists put together

some_words : (w : List ℕ) (ws : List (List ℕ)) → w ∷ ws ≡ [] → ⊥
some_words w ws e = let z : ◌≡◌ {A = ℕ} 0 1 = cc in omega arith

starts-words : (a : List ℕ) → starts in_word a ≡ true → words_of a ≡ [] → ⊥
unfolding starts words_of on_first
starts-words [] h e = no_true (sym h)
starts-words (b ∷ rest) h e = by (starts in_word rest) (words_of rest) (rw (not-true (blank b) h) at e)
  where
    by : (j : Bool) (ws : List (List ℕ)) → cond j (on_first b ws) ((b ∷ []) ∷ ws) ≡ [] → ⊥
    by true [] g = some_words _ _ g
    by true (w ∷ ws) g = some_words _ _ g
    by false ws g = some_words _ _ g

on-first : (b : ℕ) (ws vs : List (List ℕ)) → (ws ≡ [] → ⊥) → on_first b (ws ++ vs) ≡ on_first b ws ++ vs
unfolding on_first
on-first b [] vs n = absurd (n refl)
on-first b (w ∷ ws) vs n = refl

seam : (a b : List ℕ) → starts in_word b ≡ false → starts in_word (a ++ b) ≡ starts in_word a
unfolding starts
seam [] b h = h
seam (c ∷ a) b h = refl

-- the second does not go on with a word of the first
words_append : (a b : List ℕ) → starts in_word b ≡ false → words_of (a ++ b) ≡ words_of a ++ words_of b
unfolding words_of
words_append [] b h = refl
words_append (c ∷ a) b h = rw (seam a b h, words_append a b h) (by (blank c) (starts in_word a) refl)
  where
    by : (t j : Bool) → starts in_word a ≡ j
        → cond t (words_of a ++ words_of b) (cond j (on_first c (words_of a ++ words_of b)) ((c ∷ []) ∷ (words_of a ++ words_of b)))
        ≡ cond t (words_of a) (cond j (on_first c (words_of a)) ((c ∷ []) ∷ words_of a)) ++ words_of b
    by true j e = refl
    by false true e = on-first c (words_of a) (words_of b) (starts-words a e)
    by false false e = refl

blank-words : (t : List ℕ) → every blank t ≡ true → words_of t ≡ []
unfolding every words_of
blank-words [] h = refl
blank-words (b ∷ t) h = let e = and_both (blank b) (every blank t) h in rw e.0 (blank-words t e.1)

blank-starts : (t : List ℕ) → every blank t ≡ true → starts in_word t ≡ false
unfolding every starts
blank-starts [] h = refl
blank-starts (b ∷ t) h = ap not (and_both (blank b) (every blank t) h).0

-- ---- a place between words

pub record Between (l : List ℕ) (q : ℕ) : Type 0 where
  pub inside : q ≤ length l
  pub apart : words_of l ≡ words_of (take q l) ++ words_of (drop q l)

pub start_between : (l : List ℕ) → Between l 0
unfolding words_of
start_between l = record { inside = omega arith; apart = refl }

module _ (l : List ℕ) (q : ℕ) (h : q ≤ length l) where
  pub end-between : Between l (word_end l q)
  end-between = record {
    inside = end-inside l q h;
    apart = ap words_of (sym (take-append-drop (word_end l q) l)) ∙ words_append (take (word_end l q) l) (drop (word_end l q) l) (rw (drop-to-end in_word l (word_start l q)) (after-stops in_word _));
  }

  -- up to where a word starts there are no more words than up to the place
  pub start-words : words_of (take (word_start l q) l) ≡ words_of (take q l)
  start-words =
      let gap : List ℕ = run blank (drop q l) in
      ap words_of (take-add q (length gap) l ∙ ap (λ (x : List ℕ). take q l ++ x) (take-run blank (drop q l)))
      ∙ words_append (take q l) gap (blank-starts gap (run-every blank (drop q l)))
      ∙ ap (λ (ws : List (List ℕ)). words_of (take q l) ++ ws) (blank-words gap (run-every blank (drop q l)))
      ∙ append-nil (words_of (take q l))

-- ---- what stands next past a place between words

-- no word: the spot is the line's end
pub spot-none : (p : ℕ) (l : List ℕ) (q : ℕ) → q ≤ length l → words_of (drop q l) ≡ [] → LineEnd p l (at p (word_spot l q))
spot-none p l q h none_left = by (eqb (word_start l q) (length l)) refl
  where
    by : (t : Bool) → eqb (word_start l q) (length l) ≡ t → LineEnd p l (at p (word_spot l q))
    by true e =
        let a : word_start l q ≡ length l = eqb-true _ _ e in
        record { place = omega (arith, a); empty = omega (arith, a, end-inside l q h) }
    by false e =
        let f : WordFound l q (word_start l q) (word_end l q) = words-next l q _ h (rw e refl) in
        absurd (some_words _ _ (sym f.words ∙ none_left))

-- a word: it is the spot, and past its end again a place between words
pub record Step (l : List ℕ) (q : ℕ) (w : List ℕ) (ws : List (List ℕ)) : Type 1 where
  pub found : part l (word_spot l q) ≡ w
  pub next : words_of (drop (word_end l q) l) ≡ ws
  pub between : Between l (word_end l q)
  pub passed : words_of (take (word_end l q) l) ≡ words_of (take q l) ++ (w ∷ [])
  pub is_word : (Holds : List (List ℕ) → List ℕ → Type 0) (p : ℕ) → Holds (words_of (take q l)) w → AWord Holds p l (at p (word_spot l q))

-- two lists with the same end are the same before it
same-before : (a b c : List (List ℕ)) → a ++ c ≡ b ++ c → a ≡ b
same-before a b c e =
    let n : length b ≡ length a = omega (arith, ap length e, length-append a c, length-append b c) in
    sym (take_at a c (length a) refl) ∙ ap (take (length a)) e ∙ take_at b c (length a) n

pub step : (l : List ℕ) (q : ℕ) (w : List ℕ) (ws : List (List ℕ)) → Between l q → words_of (drop q l) ≡ w ∷ ws → Step l q w ws
step l q w ws between left = record {
  found = found;
  next = next;
  between = onward;
  passed = same-before _ _ (words_of (drop end l)) (sym onward.apart ∙ apart ∙ sym (append_assoc (words_of (take q l)) (w ∷ []) (words_of (drop end l))));
  is_word = λ Holds p holds. record {
    before = take start l;
    word = w;
    after = drop end l;
    parts = record {
      line = sym (take-append-drop start l) ∙ ap (λ (x : List ℕ). take start l ++ x) rest;
      place = omega (arith, length-take-le start l (start-inside l q between.inside));
      long = omega (arith, ap length found, length-take-le (end - start) (drop start l) (omega (arith, length-drop start l, f.inside)));
    };
    words = rw (start-words l q between.inside) apart;
    holds = rw (start-words l q between.inside) holds;
  };
}
  where
    start : ℕ
    start = word_start l q

    end : ℕ
    end = word_end l q

    there : start ≡ length l → ⊥
    there e = some_words w ws (sym left ∙ words-none l q (rw (eq-eqb (word_start l q) (length l) e) refl))

    f : WordFound l q start end
    f = words-next l q (record { start = start; end = end }) between.inside (rw (ne_eqb (word_start l q) (length l) there) refl)

    both : take (end - start) (drop start l) ∷ words_of (drop end l) ≡ w ∷ ws
    both = sym f.words ∙ left

    found : take (end - start) (drop start l) ≡ w
    found = cc both

    next : words_of (drop end l) ≡ ws
    next = cc both

    onward : Between l end
    onward = end-between l q between.inside

    apart : words_of l ≡ words_of (take q l) ++ (w ∷ words_of (drop end l))
    apart = between.apart ∙ ap (λ (vs : List (List ℕ)). words_of (take q l) ++ vs) (left ∙ ap (λ (vs : List (List ℕ)). w ∷ vs) (sym next))

    rest : drop start l ≡ w ++ drop end l
    rest =
        let e : start + (end - start) ≡ end = omega (arith, f.nonempty) in
        sym (take-append-drop (end - start) (drop start l))
        ∙ ap₂ (λ (x y : List ℕ). x ++ y) found (drop-drop (end - start) start l ∙ ap (λ k. drop k l) e)

-- ---- from the line's start on

pub none_ahead : (l : List ℕ) → words_of (take 0 l) ≡ []
unfolding words_of
none_ahead l = refl

pub first-passed : (l w : List ℕ) (ws : List (List ℕ)) → Step l 0 w ws → words_of (take (word_end l 0) l) ≡ w ∷ []
unfolding words_of
first-passed l w ws st = st.passed
