-- A line's first word and the rest; the five keywords.
use Prim.Native.Nat.{ℕ}
use mathlib.Core.Path.{◌≡◌, refl, sym, ap, ◌∙◌}
use mathlib.Core.Bool.{Bool, true, false, cond, not}
use mathlib.Core.List.{List, [], ◌∷◌, ◌++◌}
use native.Mathlib.Omega.{arith}
use borrow.Author.Tests.{eqb-true, not-true}
use lib.Dec.{eqb}
use Rattle.rules.specs.Reading.Lines.{after, blank, bytes, every, in_word, number_byte, on_first, run, same, starts, words_of, hash}
use Rattle.rules.specs.Reading.Items.{named}
use Rattle.rules.specs.Reading.Contents.{or_else_try, form_of, keyword_form, keyword_of, word_form}
use Rattle.rules.specs.declared.Form.TheVariants.{Idle, Keyed, Data, Neither}
use Rattle.rules.specs.declared.Keyword.{Keyword}
use Rattle.rules.specs.declared.Keyword.TheVariants.{ATitle, ALower, AnUpper, ASize}
use Rattle.rules.specs.declared.Kind.TheVariants.{OneD, ThreeD}
use Rattle.rules.proofs.Tests.{no-some, no_true, and_both}
use Rattle.rules.proofs.Reading.Runs.{run-after, run-every, after-stops, run-starts}
use Rattle.std.specs.Prelude.{None, Option, Some}

-- ---- words

no_words : (w : List ℕ) (ws : List (List ℕ)) → [] ≡ w ∷ ws → ⊥
no_words w ws e = let z : ◌≡◌ {A = ℕ} 0 1 = cc in omega arith

blanks-first : (lead x : List ℕ) → every blank lead ≡ true → words_of (lead ++ x) ≡ words_of x
unfolding words_of every
blanks-first [] x h = refl
blanks-first (b ∷ lead) x h = let e = and_both (blank b) (every blank lead) h in rw e.0 (blanks-first lead x e.1)

word_first : (b : ℕ) (w rest : List ℕ) → in_word b ≡ true → every in_word w ≡ true → starts in_word rest ≡ false
    → words_of (b ∷ (w ++ rest)) ≡ (b ∷ w) ∷ words_of rest
unfolding words_of every starts on_first
word_first b [] rest p h s = rw (not-true (blank b) p, s)
word_first b (c ∷ w) rest p h s =
    let e = and_both (in_word c) (every in_word w) h in
    rw (not-true (blank b) p, e.0, word_first c w rest e.0 e.1 s)

-- blanks, a word, and what does not go on with it
pub words-first : (lead w rest : List ℕ) → every blank lead ≡ true → starts in_word w ≡ true → every in_word w ≡ true → starts in_word rest ≡ false
    → words_of (lead ++ (w ++ rest)) ≡ w ∷ words_of rest
unfolding starts every
words-first lead [] rest l p h s = absurd (no_true (sym p))
words-first lead (b ∷ w) rest l p h s = blanks-first lead ((b ∷ w) ++ rest) l ∙ word_first b w rest p (and_both (in_word b) (every in_word w) h).1 s

-- and a line that has a first word is of that form
pub record First (l w : List ℕ) (ws : List (List ℕ)) : Type 0 where
  pub rest : List ℕ
  pub rest-so : rest ≡ after in_word (after blank l)
  pub line : l ≡ run blank l ++ (w ++ rest)
  pub words : words_of rest ≡ ws
  pub stops : starts in_word rest ≡ false

pub first_of : (l w : List ℕ) (ws : List (List ℕ)) → words_of l ≡ w ∷ ws → First l w ws
unfolding words_of starts
first_of l w ws h = split (after blank l) refl (after-stops blank l)
  where
    split : (x : List ℕ) → after blank l ≡ x → starts blank x ≡ false → First l w ws
    split [] e s = absurd (no_words w ws (sym (ap words_of (run-after blank l ∙ ap (λ (y : List ℕ). run blank l ++ y) e) ∙ blanks-first (run blank l) [] (run-every blank l)) ∙ h))
    split (c ∷ y) e s =
        let x : List ℕ = c ∷ y in
        let k : starts in_word (run in_word x) ≡ true = run-starts in_word x ∙ ap not s in
        let q : l ≡ run blank l ++ (run in_word x ++ after in_word x) = run-after blank l ∙ ap (λ (y : List ℕ). run blank l ++ y) (e ∙ run-after in_word x) in
        let g : run in_word x ∷ words_of (after in_word x) ≡ w ∷ ws =
        sym (ap words_of q ∙ words-first (run blank l) (run in_word x) (after in_word x) (run-every blank l) k (run-every in_word x) (after-stops in_word x)) ∙ h in
        let a : run in_word x ≡ w = cc in
        let b : words_of (after in_word x) ≡ ws = cc in
        record {
          rest = after in_word x;
          rest-so = ap (after in_word) (sym e);
          line = q ∙ ap (λ (v : List ℕ). run blank l ++ (v ++ after in_word x)) a;
          words = b;
          stops = after-stops in_word x;
        }

-- ---- the form of a line by its first word

first_byte : (b : ℕ) (rest w : List ℕ) (ws : List (List ℕ)) → blank b ≡ false → words_of (b ∷ rest) ≡ w ∷ ws → starts hash w ≡ hash b
unfolding words_of starts on_first
first_byte b rest w ws n h = split (starts in_word rest) (words_of rest) (rw n at h)
  where
    split : (j : Bool) (vs : List (List ℕ)) → cond j (on_first b vs) ((b ∷ []) ∷ vs) ≡ w ∷ ws → starts hash w ≡ hash b
    split true [] g = let e : b ∷ [] ≡ w = cc in rw (← e)
    split true (v ∷ vs) g = let e : b ∷ v ≡ w = cc in rw (← e)
    split false vs g = let e : b ∷ [] ≡ w = cc in rw (← e)

pub form-words : (l w : List ℕ) (ws : List (List ℕ)) → words_of l ≡ w ∷ ws → starts hash w ≡ false → form_of l ≡ word_form (w ∷ ws)
unfolding form_of words_of
form-words [] w ws h s = absurd (no_words w ws h)
form-words (b ∷ rest) w ws h s = split (eqb b 35) refl
  where
    split : (t : Bool) → eqb b 35 ≡ t → cond t Idle (word_form (words_of (b ∷ rest))) ≡ word_form (w ∷ ws)
    split true e = absurd (no_true (sym e ∙ sym (first_byte b rest w ws (rw (eqb-true b 35 e)) h) ∙ s))
    split false e = ap word_form h

-- ---- the keywords

pub same-eq : (a b : List ℕ) → same a b ≡ true → a ≡ b
unfolding same
same-eq [] [] h = refl
same-eq [] (y ∷ ys) h = absurd (no_true (sym h))
same-eq (x ∷ xs) [] h = absurd (no_true (sym h))
same-eq (x ∷ xs) (y ∷ ys) h =
    let e = and_both (eqb x y) (same xs ys) h in
    let p : x ≡ y = eqb-true x y e.0 in
    let q : xs ≡ ys = same-eq xs ys e.1 in
    cc

-- one keyword tried: the word is its name, or what follows decides
tried : (w : List ℕ) (k k' : Keyword) (next : Option Keyword) → or_else_try w k next ≡ Some k' → (next ≡ Some k' → w ≡ named k') → w ≡ named k'
tried w k k' next h f = split (same w (named k)) refl h
  where
    split : (t : Bool) → same w (named k) ≡ t → cond t (Some k) next ≡ Some k' → w ≡ named k'
    split true s g = let q : k ≡ k' = cc in same-eq w (named k) s ∙ ap named q
    split false s g = f g

pub keyword-named : (w : List ℕ) (k : Keyword) → keyword_of w ≡ Some k → w ≡ named k
unfolding keyword_of
keyword-named w k h =
    tried w ATitle k _ h (λ h₁. tried w ALower k _ h₁ (λ h₂. tried w AnUpper k _ h₂ (λ h₃. tried w (ASize OneD) k _ h₃ (λ h₄. tried w (ASize ThreeD) k None h₄ (λ h₅. absurd (no-some k (sym h₅)))))))

pub record Named (k : Keyword) : Type 0 where
  pub known : keyword_of (named k) ≡ Some k
  pub no_number : starts number_byte (named k) ≡ false
  pub no-hash : starts hash (named k) ≡ false

pub named-known : (k : Keyword) → Named k
unfolding keyword_of bytes same starts
named-known ATitle = record { known = refl; no_number = refl; no-hash = refl }
named-known ALower = record { known = refl; no_number = refl; no-hash = refl }
named-known AnUpper = record { known = refl; no_number = refl; no-hash = refl }
named-known (ASize OneD) = record { known = refl; no_number = refl; no-hash = refl }
named-known (ASize ThreeD) = record { known = refl; no_number = refl; no-hash = refl }

-- a line whose first word is a keyword has that form, and back
pub keyword-form : (l : List ℕ) (k : Keyword) (ws : List (List ℕ)) → words_of l ≡ named k ∷ ws → form_of l ≡ Keyed k
unfolding word_form
keyword-form l k ws h =
    let n : Named k = named-known k in
    form-words l (named k) ws h n.no-hash ∙ rw (n.no_number, n.known)

no-form : (k : Keyword) (X : Type 0) → Neither ≡ Keyed k → X
no-form k X e = let z : ◌≡◌ {A = ℕ} 0 1 = cc in absurd (omega arith)

form-named : (ws : List (List ℕ)) (k : Keyword) → word_form ws ≡ Keyed k → (vs : List (List ℕ)) × (ws ≡ named k ∷ vs)
unfolding word_form
form-named [] k h = no-form k _ h
form-named (w ∷ ws) k h = split (starts number_byte w) (keyword_of w) refl h
  where
    split : (t : Bool) (o : Option Keyword) → keyword_of w ≡ o → cond t Data (keyword_form o) ≡ Keyed k → (vs : List (List ℕ)) × (w ∷ ws ≡ named k ∷ vs)
    split true o e g = let z : ◌≡◌ {A = ℕ} 0 1 = cc in absurd (omega arith)
    split false None e g = no-form k _ g
    split false (Some k') e g = let q : k' ≡ k = cc in (ws, ap (λ (v : List ℕ). v ∷ ws) (keyword-named w k (e ∙ ap {B = Option Keyword} Some q)))

pub form-keyword : (l : List ℕ) (k : Keyword) → form_of l ≡ Keyed k → (vs : List (List ℕ)) × (words_of l ≡ named k ∷ vs)
unfolding form_of
form-keyword [] k h = let z : ◌≡◌ {A = ℕ} 0 1 = cc in absurd (omega arith)
form-keyword (b ∷ rest) k h = split (eqb b 35) h
  where
    split : (t : Bool) → cond t Idle (word_form (words_of (b ∷ rest))) ≡ Keyed k → (vs : List (List ℕ)) × (words_of (b ∷ rest) ≡ named k ∷ vs)
    split true g = let z : ◌≡◌ {A = ℕ} 0 1 = cc in absurd (omega arith)
    split false g = form-named (words_of (b ∷ rest)) k g

-- no first word makes a line idle
words-not-idle : (ws : List (List ℕ)) → word_form ws ≡ Idle → ⊥
unfolding word_form
words-not-idle [] h = let z : ◌≡◌ {A = ℕ} 0 1 = cc in omega arith
words-not-idle (w ∷ ws) h = split (starts number_byte w) (keyword_of w) h
  where
    split : (t : Bool) (o : Option Keyword) → cond t Data (keyword_form o) ≡ Idle → ⊥
    split true o g = let z : ◌≡◌ {A = ℕ} 0 1 = cc in omega arith
    split false None g = let z : ◌≡◌ {A = ℕ} 0 1 = cc in omega arith
    split false (Some k) g = let z : ◌≡◌ {A = ℕ} 0 1 = cc in omega arith

pub form-idle : (b : ℕ) (rest : List ℕ) → form_of (b ∷ rest) ≡ Idle → b ≡ 35
unfolding form_of
form-idle b rest h = split (eqb b 35) refl h
  where
    split : (t : Bool) → eqb b 35 ≡ t → cond t Idle (word_form (words_of (b ∷ rest))) ≡ Idle → b ≡ 35
    split true e g = eqb-true b 35 e
    split false e g = absurd (words-not-idle (words_of (b ∷ rest)) g)
