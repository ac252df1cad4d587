-- What the words from a place on say as three numbers, by those found one after another: none where they are too few or too many, else the three.
use Prim.Native.Nat.{ℕ}
use mathlib.Core.Path.{◌≡◌}
use mathlib.Core.Bool.{cond, ◌&&◌}
use mathlib.Core.List.{List, []}
use lib.ListN.{drop}
use Rattle.rules.specs.Reading.Lines.{words_of}
use Rattle.rules.specs.Reading.Contents.{formed, three_of}
use Rattle.text.proofs.WordsFrom.{WordFound}
use Rattle.content.specs.Found.{NumberFrom}
use Rattle.std.specs.Prelude.{None, Some}
use Rattle.rules.specs.Results.{Number}

module _ {places limit : ℕ} {l : List ℕ} {from a : ℕ} {x : Number} (first : NumberFrom places limit l from x a) where
  pub one_word : words_of (drop a l) ≡ [] → None ≡ three_of places limit (words_of (drop from l))
  unfolding three_of
  one_word end = rw (first.words, end)

  module _ {b : ℕ} {y : Number} (second : NumberFrom places limit l a y b) where
    pub two-words : words_of (drop b l) ≡ [] → None ≡ three_of places limit (words_of (drop from l))
    unfolding three_of
    two-words end = rw (first.words, second.words, end)

    module _ {c : ℕ} {z : Number} (third : NumberFrom places limit l b z c) where
      pub more-words : {d e : ℕ} → WordFound l c d e → None ≡ three_of places limit (words_of (drop from l))
      unfolding three_of
      more-words fourth = rw (first.words, second.words, third.words, fourth.words)

      pub three-words : words_of (drop c l) ≡ []
          → cond (formed x && (formed y && formed z)) (Some (record { first = x; second = y; third = z })) None ≡ three_of places limit (words_of (drop from l))
      unfolding three_of
      three-words end = rw (first.words, second.words, third.words, end, first.says, second.says, third.says)
