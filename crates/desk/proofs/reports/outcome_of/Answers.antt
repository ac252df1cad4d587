use Rattle.desk.specs.Outcomes.{outcome_of}
use borrow.Author.Rules.{rules}
use Rattle.desk.proofs.reports.outcome_of.Goals as goal

pub returns-in-Ok : goal.returns-in-Ok
unfolding outcome_of
returns-in-Ok c = search rules

pub returns-in-Err : goal.returns-in-Err
unfolding outcome_of
returns-in-Err c = search rules
