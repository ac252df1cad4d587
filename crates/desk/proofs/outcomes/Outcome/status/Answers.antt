use borrow.Author.Rules.{rules}
use Rattle.desk.specs.Outcomes.{status_of}
use Rattle.desk.proofs.outcomes.Outcome.status.Goals as goal

pub returns-in-Done : goal.returns-in-Done
unfolding status_of
returns-in-Done c = search rules

pub returns-in-Refused : goal.returns-in-Refused
unfolding status_of
returns-in-Refused c = search rules

pub returns-in-Failed : goal.returns-in-Failed
unfolding status_of
returns-in-Failed c = search rules
