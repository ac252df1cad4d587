use mathlib.Core.Path.{sym, ap, ◌∙◌}
use native.Mathlib.Omega.{arith}
use lib.ListN.{length, drop_of_length-le}
use Prim.Native.Nat.{◌≤◌}
use Rattle.rules.specs.Reading.Lines.{words_of}
use Rattle.rules.specs.Reading.Contents.{parameters}
use Rattle.text.proofs.WordsFrom.{words-next, words-none}
use Rattle.content.proofs.after_first_word.Goals as goal

-- The words past the first, where there is one; else none.
pub returns-in-Some : goal.returns-in-Some
unfolding parameters
returns-in-Some c =
    let w = words-next c.args.l.now 0 _ (omega arith) (sym c.in-Some.ensures) in
    record { within = w.inside; rest = sym (ap parameters w.words) }

pub returns-in-None : goal.returns-in-None
unfolding words_of parameters
returns-in-None c =
    let l = c.args.l.now in
    let h : length l ≤ length l = omega arith in
    record { within = h; rest = ap words_of (drop_of_length-le l h) ∙ sym (ap parameters (words-none l 0 (sym c.in-None.ensures))) }
