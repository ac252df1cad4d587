use Rattle.picture.proofs.ThreePasses.{strip-inside, strip-passed}
use Rattle.picture.proofs.lines.correct_line.Goals as goal

-- Whichever way a colour goes, its codes are look's: by a strip of the line, or one by one.
pub correct_strip-requires-clause-inside : goal.correct_strip-requires-clause-inside
correct_strip-requires-clause-inside c =
    let l = c.requires.line_at in
    let q = c.in-Some.ensures c.args.table.now l in
    (q.stripped, strip-inside l q c.requires.inside)

pub returns-in-Some : goal.returns-in-Some
returns-in-Some c =
    λ l. let q = c.in-Some.ensures c.args.table.now l in
    strip-passed l q (c.correct_strip.ensures q.stripped (strip-inside l q c.requires.inside))

pub returns-in-None : goal.returns-in-None
returns-in-None c = λ l. c.pass_line.ensures l.lined
