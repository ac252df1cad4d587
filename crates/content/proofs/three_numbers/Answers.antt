use mathlib.Core.Path.{sym, ◌∙◌}
use Rattle.rules.specs.Reading.Contents.{three_of}
use Rattle.text.proofs.WordsFrom.{words-next, words-none}
use Rattle.content.proofs.ThreeWords.{more-words, one_word, three-words, two-words}
use Rattle.content.proofs.three_numbers.Goals as goal

-- Three numbers found one after another, each from the end of the one before, are the three words that the definition reads.
pub returns-in_err-first : goal.returns-in_err-first
unfolding three_of
returns-in_err-first c = rw (c.from_residual.ensures, c.in_err-first.ensures)

pub returns-in_err-second : goal.returns-in_err-second
returns-in_err-second c = rw c.from_residual-in_err-second.ensures (one_word c.in_ok-first.ensures c.in_err-second.ensures)

pub returns-in_err-third : goal.returns-in_err-third
returns-in_err-third c = rw c.from_residual-in_err-third.ensures (two-words c.in_ok-first.ensures c.in_ok-second.ensures c.in_err-third.ensures)

pub returns-in_default : goal.returns-in_default
returns-in_default c =
    let third = c.in_ok-third.ensures in
    more-words c.in_ok-first.ensures c.in_ok-second.ensures third
    (words-next _ _ _ third.inside (sym c.next_word.ensures ∙ c.in_default.is))

pub returns : goal.returns
returns c =
    c.three_formed.ensures
    ∙ three-words c.in_ok-first.ensures c.in_ok-second.ensures c.in_ok-third.ensures (words-none _ _ (sym c.in-None.ensures))
