-- Document 01, "Lines", from a place of a line: the next word's places.
use Rattle.std.specs.Prelude.{ℕ, cond, List, eqb, length, Option, None, Some}
use Rattle.rules.specs.Reading.Lines.{blank, in_word}
use Rattle.scan.specs.RunEnds.{run_end}
use Rattle.text.specs.declared.words.Word.{Word}

-- past the blanks from place p on
abbrev pub word_start : List ℕ → ℕ → ℕ
word_start l p = run_end blank l p

-- past the bytes of a word that starts there
abbrev pub word_end : List ℕ → ℕ → ℕ
word_end l p = run_end in_word l (word_start l p)

-- the first word from place p on; none where blanks reach the line's end
abbrev pub word_at : List ℕ → ℕ → Option Word
word_at l p = cond (eqb (word_start l p) (length l)) None (Some (record { start = word_start l p; end = word_end l p }))
