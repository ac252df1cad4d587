-- A written line: words with one space between them. Where each word has a few bytes, and all of them show, the line's words are those words, and the
-- line is short and permitted.
use Prim.Native.Nat.{ℕ, ◌+◌, ◌*◌, ◌≤◌}
use mathlib.Core.Path.{◌≡◌, refl, sym, ap, subst, ◌∙◌}
use mathlib.Core.Bool.{Bool, true, false, ◌&&◌}
use mathlib.Core.List.{List, [], ◌∷◌, ◌++◌, append-nil, append_assoc}
use native.Mathlib.Omega.{arith}
use borrow.Author.Tests.{leb-true, le-leb, eqb-true, ne_eqb}
use lib.Dec.{eqb, leb}
use lib.ListN.{length, length-append}
use Rattle.rules.specs.Fields.{parted}
use Rattle.rules.specs.Reading.Lines.{every, in_word, lines_of, newline, newlines, permitted, starts, words_of}
use Rattle.rules.specs.Reading.Grammar.{Gives, Line, Lines}
use Rattle.rules.specs.declared.Item.{Item}
use Rattle.rules.proofs.Tests.{no_true, and_both, both-and}
use Rattle.rules.proofs.Reading.Runs.{every_append}
use Rattle.rules.proofs.Reading.Wordings.{words-first}
use Rattle.rules.proofs.Reading.Bridge.{All}
use Rattle.signature.proofs.Reading.LineNumbers.{line-then}

-- ---- bytes

-- 0x21 to 0x7E
abbrev pub shows : ℕ → Bool
shows b = leb 33 b && leb b 126

between : (b : ℕ) → shows b ≡ true → (33 ≤ b) × (b ≤ 126)
between b h = let e = and_both (leb 33 b) (leb b 126) h in (leb-true 33 b e.0, leb-true b 126 e.1)

shows-permitted : (b : ℕ) → shows b ≡ true → permitted b ≡ true
shows-permitted b h = let e = between b h in rw (le-leb 32 b (omega (arith, e.0)), le-leb b 126 e.1)

-- no blank shows
pub shows-in-word : (b : ℕ) → shows b ≡ true → in_word b ≡ true
shows-in-word b h = let e = between b h in rw (ne_eqb b 32 (λ q. omega (arith, e.0)), ne_eqb b 9 (λ q. omega (arith, e.0)))

no-newline : (b : ℕ) → permitted b ≡ true → newline b ≡ false
no-newline b h = split (eqb b 10) refl
  where
    split : (t : Bool) → eqb b 10 ≡ t → t ≡ false
    split true e = absurd (no_true (sym (subst (λ (c : ℕ). permitted c ≡ true) (eqb-true b 10 e) h)))
    split false e = refl

-- a kind of bytes that are all of another kind
module _ (kind other : ℕ → Bool) (also : (b : ℕ) → kind b ≡ true → other b ≡ true) where
  pub every-also : (l : List ℕ) → every kind l ≡ true → every other l ≡ true
  unfolding every
  every-also [] h = refl
  every-also (b ∷ l) h = let e = and_both (kind b) (every kind l) h in both-and _ _ (also b e.0) (every-also l e.1)

  pub starts-also : (l : List ℕ) → starts kind l ≡ true → starts other l ≡ true
  unfolding starts
  starts-also [] h = absurd (no_true (sym h))
  starts-also (b ∷ l) h = also b h

permitted-one-line : (l : List ℕ) → every permitted l ≡ true → newlines l ≡ 0
unfolding every newlines
permitted-one-line [] h = refl
permitted-one-line (b ∷ l) h = let e = and_both (permitted b) (every permitted l) h in rw (no-newline b e.0) (permitted-one-line l e.1)

-- ---- lines

-- a text has one line more with a line in front of it
pub line-before : (p : ℕ) (l s : List ℕ) (i : Item) (is : List Item) → Line p l i → Lines (p + length l + 1) (lines_of s) is
    → Lines p (lines_of (l ++ (10 ∷ s))) (i ∷ is)
line-before p l s i is h more =
    subst (λ (ls : List (List ℕ)). Lines p ls (i ∷ is)) (sym (line-then l s (permitted-one-line l h.permitted_so))) (h, more)

-- ---- words with one space between them

-- more than any word that is written has
abbrev pub word_limit : ℕ
word_limit = 20

-- at least one byte, all of them show, and they are few
pub record Word (w : List ℕ) : Type 0 where
  pub some : starts in_word w ≡ true
  pub each : every shows w ≡ true
  pub short : length w ≤ word_limit

-- a line without its newline
unfoldable pub spaced : List (List ℕ) → List ℕ
spaced [] = []
spaced (w ∷ []) = w
spaced (w ∷ v ∷ more) = w ++ (32 ∷ spaced (v ∷ more))

-- the newline comes after them
pub parted-spaced : (ws : List (List ℕ)) (s : List ℕ) → parted 32 ws ++ s ≡ spaced ws ++ (10 ∷ s)
unfolding parted spaced
parted-spaced [] s = refl
parted-spaced (w ∷ []) s = append_assoc w (10 ∷ []) s
parted-spaced (w ∷ v ∷ more) s =
    append_assoc w (32 ∷ parted 32 (v ∷ more)) s
    ∙ ap (λ (x : List ℕ). w ++ (32 ∷ x)) (parted-spaced (v ∷ more) s)
    ∙ sym (append_assoc w (32 ∷ spaced (v ∷ more)) (10 ∷ s))

in-word : {w : List ℕ} → Word w → every in_word w ≡ true
in-word {w} h = every-also shows in_word shows-in-word w h.each

-- its words are those that it is made of
pub spaced-words : (ws : List (List ℕ)) → All Word ws → words_of (spaced ws) ≡ ws
unfolding spaced words_of starts every
spaced-words [] h = refl
spaced-words (w ∷ []) h = ap words_of (sym (append-nil w)) ∙ words-first [] w [] refl h.0.some (in-word h.0) refl
spaced-words (w ∷ v ∷ more) h =
    words-first [] w (32 ∷ spaced (v ∷ more)) refl h.0.some (in-word h.0) refl
    ∙ ap (λ (vs : List (List ℕ)). w ∷ vs) (spaced-words (v ∷ more) h.1)

spaced-permitted : (ws : List (List ℕ)) → All Word ws → every permitted (spaced ws) ≡ true
unfolding spaced every
spaced-permitted [] h = refl
spaced-permitted (w ∷ []) h = every-also shows permitted shows-permitted w h.0.each
spaced-permitted (w ∷ v ∷ more) h =
    every_append permitted w (32 ∷ spaced (v ∷ more)) (every-also shows permitted shows-permitted w h.0.each) (spaced-permitted (v ∷ more) h.1)

spaced-short : (ws : List (List ℕ)) → All Word ws → length (spaced ws) ≤ (word_limit + 1) * length ws
unfolding spaced
spaced-short [] h = omega arith
spaced-short (w ∷ []) h = omega (arith, h.0.short)
spaced-short (w ∷ v ∷ more) h = omega (arith, length-append w (32 ∷ spaced (v ∷ more)), h.0.short, spaced-short (v ∷ more) h.1)

-- at most eleven words with one space between them, then other lines
pub words-before : (p : ℕ) (ws : List (List ℕ)) (s : List ℕ) (i : Item) (is : List Item) → All Word ws → length ws ≤ 11 → Gives p (spaced ws) i
    → Lines (p + length (spaced ws) + 1) (lines_of s) is → Lines p (lines_of (parted 32 ws ++ s)) (i ∷ is)
words-before p ws s i is h few gives more =
    subst (λ (text : List ℕ). Lines p (lines_of text) (i ∷ is)) (sym (parted-spaced ws s))
    (line-before p (spaced ws) s i is (record { short = omega (arith, spaced-short ws h); permitted_so = spaced-permitted ws h; gives = gives }) more)
