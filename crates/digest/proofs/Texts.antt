-- Words put one after another as hexadecimal digits.
use Rattle.std.proofs.Common.{◌≡◌, ℕ, suc, ◌+◌, ◌-◌, ◌*◌, ◌/◌, ◌%◌, ◌^◌, ◌<◌, ◌≤◌, List, [], ◌∷◌, ◌++◌, length, get_or, take, drop, set, sym, refl, ap, ◌∙◌, subst, append_assoc, append-nil, add-one, arith, length-append, take-suc}
use lib.ListN.{length-map}
use lib.Seq.{split_at}
use Rattle.lettering.specs.Putting.{Room, Puts}
use Rattle.lettering.proofs.Texts.{PutInPart, one_more, all-put, next-part, puts-both}
use Rattle.digest.specs.declared.Digest.{Digest}
use Rattle.digest.specs.Sha256.{digits}
use Rattle.digest.specs.Hexadecimal.{hex_byte, hex_word, hex_words, words_of, hexadecimal}
use Rattle.digest.proofs.Digits.{digits-length, digits-at, map_at}

-- ---- one word

pub word-length : (x : ℕ) → length (hex_word x) ≡ 8
unfolding hex_word
word-length x = length-map (digits 4 8 x) hex_byte ∙ digits-length 4 8 x

pub word_at : (x i : ℕ) → i < 8 → get_or (hex_word x) i 0 ≡ hex_byte (x / 2 ^ (4 * (7 - i)) % 16)
unfolding hex_word
word_at x i h = map_at hex_byte (digits 4 8 x) i (omega (arith, digits-length 4 8 x)) ∙ ap hex_byte (digits-at 4 8 x i h)

module _ {out₀ : List ℕ} {at : ℕ} (x : ℕ) {i : ℕ} {out : List ℕ} (p : PutInPart out₀ at (hex_word x) i out) (room : Room out₀ at (hex_word x)) where
  pub word-turn : {b : ℕ} → i < 8 → b ≡ hex_byte (x / 2 ^ (4 * (7 - i)) % 16) → PutInPart out₀ at (hex_word x) (i + 1) (set out (at + i) b)
  word-turn {b} h e =
      subst (λ y. PutInPart out₀ at (hex_word x) (i + 1) (set out (at + i) y)) (word_at x i h ∙ sym e)
      (one_more p room (omega (arith, word-length x)))

  pub word-end : 8 ≤ i → Puts out₀ at (hex_word x) (at + 8) out
  word-end h = subst (λ n. Puts out₀ at (hex_word x) (at + n) out) (word-length x) (all-put p room (omega (arith, word-length x)))

-- ---- some words

words_append : (a b : List ℕ) → hex_words (a ++ b) ≡ hex_words a ++ hex_words b
unfolding hex_words
words_append [] b = refl
words_append (x ∷ a) b = ap (λ text. hex_word x ++ text) (words_append a b) ∙ sym (append_assoc (hex_word x) (hex_words a) (hex_words b))

words-length : (words : List ℕ) → length (hex_words words) ≡ 8 * length words
unfolding hex_words
words-length [] = refl
words-length (x ∷ words) = omega (arith, length-append (hex_word x) (hex_words words), word-length x, words-length words)

pub hexadecimal-length : (d : Digest) → length (hexadecimal d) ≡ 64
hexadecimal-length d = words-length (words_of d)

module _ {out₀ : List ℕ} {at : ℕ} (words : List ℕ) {i end : ℕ} {out : List ℕ} (inside : i < length words)
    (p : Puts out₀ at (hex_words (take i words)) end out) where
  -- there is room for the next
  pub next-word-room : Room out₀ at (hex_words words) → Room out end (hex_word (get_or words i 0))
  unfolding hex_words
  next-word-room room =
      next-part (hex_word (get_or words i 0)) (hex_words (drop (suc i) words)) p
      (subst (Room out₀ at) (ap hex_words (split_at words i 0 inside) ∙ words_append (take i words) (get_or words i 0 ∷ drop (suc i) words)) room)

  -- with the next it is one word more
  pub next-word-put : {r : ℕ} {out' : List ℕ} → Puts out end (hex_word (get_or words i 0)) r out' → Puts out₀ at (hex_words (take (i + 1) words)) r out'
  unfolding hex_words
  next-word-put {r} {out'} q =
      subst (λ text. Puts out₀ at text r out')
      (ap (λ text. hex_words (take i words) ++ text) (sym (append-nil (hex_word (get_or words i 0))))
      ∙ sym (words_append (take i words) (get_or words i 0 ∷ []))
      ∙ ap hex_words (sym (take-suc words i 0 inside) ∙ ap (λ n. take n words) (sym (add-one i))))
      (puts-both p q)
