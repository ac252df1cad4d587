use Rattle.colour.proofs.Ratios.{ratio-known}
use Rattle.facts.proofs.Bounds.{line-fits, line-codable}
use Rattle.facts.proofs.told.facts_of.Goals as goal

-- The line is the colour's, so that what is full on it is E, and the code's M the corrected one.
pub plan_of-requires-clause-in_terms : goal.plan_of-requires-clause-in_terms
plan_of-requires-clause-in_terms c = let known = c.requires.known_depths in ratio-known known.0 c.args.depths known.1

pub facts_by-requires-clause-axis_fits : goal.facts_by-requires-clause-axis_fits
facts_by-requires-clause-axis_fits c = line-fits c.requires.summed c.requires.known_depths c.args.c c.plan_of.ensures c.line_of-line.ensures

pub facts_by-requires-clause-codable : goal.facts_by-requires-clause-codable
facts_by-requires-clause-codable c =
    rw c.greatest.ensures (line-codable c.requires.summed c.requires.known_depths c.args.c c.plan_of.ensures c.line_of-line.ensures)
