use mathlib.Core.Path.{ap, ◌∙◌}
use Rattle.rules.specs.Reading.Contents.{quoted, title_of}
use Rattle.rules.specs.Reading.Lines.{after, blank, in_word}
use Rattle.text.proofs.title.title_of.Goals as goal

pub returns : goal.returns
unfolding title_of
returns c =
    let b = c.before.after.ensures.rest ∙ ap (after blank) (c.before.before.after-gap.ensures.rest ∙ ap (after in_word) c.before.before.before.after-word.ensures.rest) in
    c.quoted.ensures ∙ ap (quoted _) b
