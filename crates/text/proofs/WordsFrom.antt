-- The words from a place on are the word that stands next and the words past it: what is left of the line is blanks, the word, and what does not go on with it.
use Prim.Native.Nat.{ℕ, ◌-◌, ◌≤◌, ◌<◌}
use mathlib.Core.Path.{◌≡◌, refl, sym, ap, ◌∙◌}
use mathlib.Core.Bool.{Bool, true, false, cond, not}
use mathlib.Core.List.{List, [], ◌∷◌, ◌++◌}
use native.Mathlib.Omega.{arith}
use borrow.Author.Tests.{eqb-false, eqb-true}
use lib.Dec.{eqb}
use lib.ListN.{length, drop, take, drop_of_length-le, length-drop}
use Rattle.rules.specs.Reading.Lines.{after, blank, in_word, run, starts, words_of}
use Rattle.rules.proofs.Tests.{no_true}
use Rattle.rules.proofs.Reading.Runs.{after-stops, run-after, run-every, run-starts}
use Rattle.rules.proofs.Reading.Wordings.{words-first}
use Rattle.text.specs.WordsFrom.{word_at, word_end, word_start}
use Rattle.std.specs.Prelude.{None, Some}
use Rattle.text.specs.declared.words.Word.{Word}
use Rattle.scan.proofs.Runs.{drop-to-end, end-within, take-to-end}

-- ---- the first word of a list

no_word : (t : List ℕ) → after blank t ≡ [] → words_of t ≡ []
unfolding after words_of
no_word [] h = refl
no_word (b ∷ rest) h = split (blank b) refl h (no_word rest)
  where
    split : (e : Bool) → blank b ≡ e → cond e (after blank rest) (b ∷ rest) ≡ [] → (after blank rest ≡ [] → words_of rest ≡ []) → words_of (b ∷ rest) ≡ []
    split true e g ih = rw e (ih g)
    split false e g ih = let z : ◌≡◌ {A = ℕ} 0 1 = cc in absurd (omega arith)

-- past the blanks a word starts, or nothing is left
word-starts : (t : List ℕ) → (after blank t ≡ [] → ⊥) → starts in_word (after blank t) ≡ true
unfolding starts
word-starts t h = split (after blank t) refl (after-stops blank t)
  where
    split : (x : List ℕ) → after blank t ≡ x → starts blank x ≡ false → starts in_word x ≡ true
    split [] e s = absurd (h e)
    split (b ∷ rest) e s = ap not s

word_some : (x : List ℕ) → starts in_word x ≡ true → 0 < length (run in_word x)
unfolding starts run
word_some [] h = absurd (no_true (sym h))
word_some (b ∷ rest) h = rw h (omega arith)

first_word : (t x : List ℕ) → after blank t ≡ x → starts in_word x ≡ true → words_of t ≡ run in_word x ∷ words_of (after in_word x)
first_word t x e s =
    let q : t ≡ run blank t ++ (run in_word x ++ after in_word x) = run-after blank t ∙ ap (λ (y : List ℕ). run blank t ++ y) (e ∙ run-after in_word x) in
    ap words_of q
    ∙ words-first (run blank t) (run in_word x) (after in_word x) (run-every blank t) (run-starts in_word x ∙ s) (run-every in_word x) (after-stops in_word x)

-- ---- the next word of a line

-- by its places
abbrev word : List ℕ → ℕ → Word
word l from = record { start = word_start l from; end = word_end l from }

-- what finding a word from a place on says
pub record WordFound (l : List ℕ) (from start end : ℕ) : Type 0 where
  pub onward : from ≤ start
  pub nonempty : start < end
  pub inside : end ≤ length l
  pub words : words_of (drop from l) ≡ take (end - start) (drop start l) ∷ words_of (drop end l)

module _ (l : List ℕ) (from : ℕ) where
  past-blanks : after blank (drop from l) ≡ drop (word_start l from) l
  past-blanks = sym (drop-to-end blank l from)

  pub words-none : word_at l from ≡ None → words_of (drop from l) ≡ []
  words-none = split (eqb (word_start l from) (length l)) refl
    where
      split : (t : Bool) → eqb (word_start l from) (length l) ≡ t → cond t None (Some (word l from)) ≡ None → words_of (drop from l) ≡ []
      split true e g = let i : length l ≤ word_start l from = omega (arith, eqb-true) in no_word (drop from l) (past-blanks ∙ drop_of_length-le l i)
      split false e g = let z : ◌≡◌ {A = ℕ} 0 1 = cc in absurd (omega arith)

  word-there : from ≤ length l → (word_start l from ≡ length l → ⊥) → WordFound l from (word_start l from) (word_end l from)
  word-there h n =
      let a : ℕ = word_start l from in
      let x : List ℕ = drop a l in
      let i : a ≤ length l = end-within blank l from h in
      let s : starts in_word x ≡ true = rw past-blanks at (word-starts (drop from l) (λ e. n (omega (arith, length-drop a l, ap length (sym past-blanks ∙ e))))) in
      record {
        onward = omega arith;
        nonempty = omega (arith, word_some x s);
        inside = end-within in_word l a i;
        words = rw (take-to-end in_word l a, drop-to-end in_word l a) (first_word (drop from l) x past-blanks s);
      }

  pub words-next : (w : Word) → from ≤ length l → word_at l from ≡ Some w → WordFound l from w.start w.end
  words-next w h = split (eqb (word_start l from) (length l)) refl
    where
      split : (t : Bool) → eqb (word_start l from) (length l) ≡ t → cond t None (Some (word l from)) ≡ Some w → WordFound l from w.start w.end
      split true e g = let z : ◌≡◌ {A = ℕ} 0 1 = cc in absurd (omega arith)
      split false e g =
          let same : word l from ≡ w = cc in
          rw (← same) (word-there h (eqb-false _ _ e))
