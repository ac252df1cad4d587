-- What the rules say of a list by its first byte and the rest; and of the empty list, which has none.
use Prim.Native.Nat.{ℕ, ◌-◌}
use mathlib.Core.Path.{◌≡◌, refl}
use mathlib.Core.Bool.{Bool, true, false, cond, ◌&&◌}
use mathlib.Core.List.{List, [], ◌∷◌}
use native.Mathlib.Omega.{arith}
use lib.ListN.{length, drop, get_or}
use Rattle.rules.specs.Reading.Lines.{after, blank, every, hash, in_title, in_word, into_words, number_byte, on_first, quote, run, starts, words_of}
use Rattle.rules.specs.Reading.Contents.{closes, form_of, quoted, word_form}
use Rattle.rules.specs.declared.Form.TheVariants.{Idle, Data}
use Rattle.rules.specs.declared.Item.TheVariants.{OfTitle}
use Rattle.rules.specs.declared.Refusal.TheVariants.{ParametersWrong}
use Rattle.rules.proofs.Reading.Numbers.{number-no-blank, number-no-hash}
use Rattle.std.specs.Prelude.{Err, Ok}

pub empty-list : (l : List ℕ) → length l ≡ 0 → l ≡ []
empty-list [] h = refl
empty-list (b ∷ rest) h = absurd (omega arith)

pub form-first : (l : List ℕ) → (length l ≡ 0 → ⊥) → form_of l ≡ cond (hash (get_or l 0 0)) Idle (word_form (words_of l))
unfolding form_of
form-first [] h = absurd (h refl)
form-first (b ∷ rest) h = refl

-- a byte of a number first makes it a data line
pub data-first : (l : List ℕ) → (length l ≡ 0 → ⊥) → number_byte (get_or l 0 0) ≡ true → form_of l ≡ Data
unfolding form_of word_form words_of on_first starts
data-first [] h n = absurd (h refl)
data-first (b ∷ rest) h n = rw (number-no-hash b n) (split (starts in_word rest) (words_of rest))
  where
    split : (joins : Bool) (ws : List (List ℕ)) → word_form (into_words b joins ws) ≡ Data
    split true [] = rw (number-no-blank b n, n)
    split true (w ∷ ws) = rw (number-no-blank b n, n)
    split false ws = rw (number-no-blank b n, n)

pub closes-first : (l : List ℕ) → (length l ≡ 0 → ⊥) → closes l ≡ (quote (get_or l 0 0) && every blank (drop 1 l))
unfolding closes
closes-first [] h = absurd (h refl)
closes-first (b ∷ rest) h = refl

pub quoted-first : (end : ℕ) (l : List ℕ) → (length l ≡ 0 → ⊥)
    → quoted end l ≡ cond (quote (get_or l 0 0) && closes (after in_title (drop 1 l)))
    (Ok (OfTitle (record { there = true; place = end - length (drop 1 l); length = length (run in_title (drop 1 l)) })))
    (Err ParametersWrong)
unfolding quoted
quoted-first end [] h = absurd (h refl)
quoted-first end (b ∷ rest) h = refl
