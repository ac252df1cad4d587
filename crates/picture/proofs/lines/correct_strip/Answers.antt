use Rattle.picture.proofs.lines.correct_strip.Goals as goal

-- The pieces of every cell are laid out, in memory of 1024 places each, before the first code is found.
pub pass_strip-requires-clause-strip_over : goal.pass_strip-requires-clause-strip_over
pass_strip-requires-clause-strip_over c = (c.args.table.now, record { stripped = c.requires.inside.0; laid = c.lay_pieces.ensures; codes = c.requires.inside.1 })

pub returns : goal.returns
returns c = λ s i. c.pass_strip.ensures c.args.table.now (record { stripped = s; laid = c.lay_pieces.ensures; codes = i })
