-- Three numbers with a space between them and a newline after them are a line that gives a row.
use Prim.Native.Nat.{ℕ, ◌+◌, ◌≤◌, ◌<◌}
use mathlib.Core.Path.{◌≡◌, refl, sym, ap, ap₂, ◌∙◌}
use mathlib.Core.Bool.{Bool, true, false, not}
use mathlib.Core.List.{List, [], ◌∷◌, ◌++◌, append-nil}
use native.Mathlib.Omega.{arith}
use borrow.Author.Tests.{le-leb, ne_eqb}
use lib.Dec.{leb}
use lib.IntN.{ℤ}
use lib.ListN.{length, get_or, drop}
use Rattle.rules.specs.Reading.Lines.{blank, every, in_word, number_byte, permitted, run, starts, words_of}
use Rattle.rules.specs.Reading.Contents.{row_of}
use Rattle.rules.specs.Reading.Grammar.{Line}
use Rattle.rules.specs.declared.Item.TheVariants.{OfRow}
use Rattle.rules.proofs.Tests.{both-and}
use Rattle.rules.proofs.Reading.Numbers.{number-no-blank, number-range}
use Rattle.rules.proofs.Reading.Runs.{every_append, every-other, every-starts, run-append}
use Rattle.rules.proofs.Reading.Wordings.{words-first}
use Rattle.scan.specs.Kinds.{in_line}
use Rattle.numbers.specs.Parts.{part}
use Rattle.plain.specs.Shapes.{NumberAt, RowAt}
use Rattle.plain.proofs.Pieces.{piece_cut, piece-length, rest-cut}

-- ---- what the bytes of numbers are

number-permitted : (b : ℕ) → number_byte b ≡ true → permitted b ≡ true
number-permitted b h = let r = number-range b h in rw (both-and (leb 32 b) (leb b 126) (le-leb 32 b (omega (arith, r.0))) (le-leb b 126 (omega (arith, r.1))))

number-in-line : (b : ℕ) → number_byte b ≡ true → in_line b ≡ true
number-in-line b h = let least = (number-range b h).0 in ap not (ne_eqb b 10 (λ e. omega arith))

-- ---- a number as a word

module _ {s : List ℕ} {from to : ℕ} {v : ℤ} (n : NumberAt s from to v) where
  abbrev word : List ℕ
  word = part s from to

  in-word : every in_word word ≡ true
  in-word = every-other number_byte in_word (λ b h. ap not (number-no-blank b h)) word n.bytes

  starts-word : to ≤ length s → starts in_word word ≡ true
  starts-word inside = every-starts in_word word (omega (arith, n.onward, piece-length s from to (omega (arith, n.onward)) inside)) in-word

  -- blanks, the number, and what does not go on with it
  word_first : (lead rest : List ℕ) → to ≤ length s → every blank lead ≡ true → starts in_word rest ≡ false → words_of (lead ++ (word ++ rest)) ≡ word ∷ words_of rest
  word_first lead rest inside blanks stops = words-first lead word rest blanks (starts-word inside) in-word stops

-- ---- the row

module _ {s : List ℕ} {at a b c : ℕ} {x y z : ℤ} (first : NumberAt s at a x) (gap : get_or s a 0 ≡ 32) (second : NumberAt s (a + 1) b y) (gap' : get_or s b 0 ≡ 32)
    (third : NumberAt s (b + 1) c z) (newline-there : get_or s c 0 ≡ 10) (inside : c < length s) where
  abbrev u : List ℕ
  u = part s at a

  abbrev v : List ℕ
  v = part s (a + 1) b

  abbrev w : List ℕ
  w = part s (b + 1) c

  text : part s at c ≡ u ++ (32 ∷ (v ++ (32 ∷ w)))
  text =
      piece_cut s at a c (omega arith) (omega arith) (omega arith)
      ∙ ap₂ (λ k l. u ++ (k ∷ l)) gap (piece_cut s (a + 1) b c (omega arith) (omega arith) (omega arith) ∙ ap (λ k. v ++ (k ∷ w)) gap')

  -- each byte is of a kind that has the bytes of numbers and the space
  each : (kind : ℕ → Bool) → ((k : ℕ) → number_byte k ≡ true → kind k ≡ true) → kind 32 ≡ true → every kind (part s at c) ≡ true
  unfolding every
  each kind has space =
      let all : (l : List ℕ) → every number_byte l ≡ true → every kind l ≡ true = every-other number_byte kind has in
      let more : (l : List ℕ) → every kind l ≡ true → every kind (32 ∷ l) ≡ true = λ l h. both-and (kind 32) (every kind l) space h in
      ap (every kind) text
      ∙ every_append kind u (32 ∷ (v ++ (32 ∷ w))) (all u first.bytes)
      (more (v ++ (32 ∷ w)) (every_append kind v (32 ∷ w) (all v second.bytes) (more w (all w third.bytes))))

  words_are : words_of (part s at c) ≡ u ∷ v ∷ w ∷ []
  unfolding every starts words_of
  words_are =
      ap words_of (text ∙ ap (λ l. u ++ (32 ∷ (v ++ (32 ∷ l)))) (sym (append-nil w)))
      ∙ word_first first [] _ (omega arith) refl refl
      ∙ ap (λ ws. u ∷ ws) (word_first second (32 ∷ []) _ (omega arith) refl refl ∙ ap (λ ws. v ∷ ws) (word_first third (32 ∷ []) [] (omega arith) refl refl))

  line : (p : ℕ) → Line p (part s at c) (OfRow (row_of x y z))
  line p =
      record {
        short = omega (arith, piece-length s at c (omega arith) (omega arith));
        permitted_so = each permitted number-permitted refl;
        gives = record { a = u; b = v; c = w; words = words_are; red = first.exact; green = second.exact; blue = third.exact };
      }

  pub row-there : RowAt s at c (row_of x y z)
  unfolding starts
  row-there =
      let rest : drop at s ≡ part s at c ++ (10 ∷ drop (c + 1) s) = rest-cut s at c (omega arith) inside ∙ ap (λ k. part s at c ++ (k ∷ drop (c + 1) s)) newline-there in
      let first_run : run in_line (drop at s) ≡ part s at c = ap (run in_line) rest ∙ (run-append in_line (part s at c) _ (each in_line number-in-line refl) refl).0 in
      record {
        ends = omega (arith, ap length first_run, piece-length s at c (omega arith) (omega arith));
        inside = inside;
        line = line;
      }
