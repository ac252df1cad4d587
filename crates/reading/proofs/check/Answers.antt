use Rattle.rules.specs.Reading.{check}
use Rattle.rules.proofs.Answers.{is-checks}
use Rattle.reading.proofs.check.Goals as goal

pub returns : goal.returns
unfolding check
returns c = is-checks c.judge_file.ensures
