use mathlib.Core.Path.{sym}
use Rattle.text.proofs.WordsFrom.{words-next, words-none}
use Rattle.content.proofs.next_number.Goals as goal

-- The word that is found is the first of the words from the place on, and its part of the line is what its number is read from.
pub returns-in_err-word : goal.returns-in_err-word
returns-in_err-word c = rw c.from_residual.ensures (words-none _ _ (sym c.in_err-word.ensures))

pub slice_bounds-number_of-end : goal.slice_bounds-number_of-end
slice_bounds-number_of-end c = (words-next _ _ _ c.requires.1 (sym c.in_ok-word.ensures)).inside

pub returns : goal.returns
returns c =
    let w = words-next _ _ _ c.requires.1 (sym c.in_ok-word.ensures) in
    record { word = _; words = w.words; says = c.number_of-number.ensures; inside = w.inside }
