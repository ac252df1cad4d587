use mathlib.Core.Path.{subst, ◌∙◌}
use Rattle.std.specs.Prelude.{is_ok}
use Rattle.desk.specs.Outcomes.{EndsAs}
use Rattle.desk.proofs.Ends.{ends_as}
use Rattle.checking.proofs.Checked.{ends}
use Rattle.checking.proofs.check_bytes.Goals as goal

pub returns : goal.returns
returns c =
    let file = c.args.file.now in
    subst (λ o. EndsAs o c.when_written.result) (c.outcome_of.ensures ∙ ends file c.check-answer.ensures)
    (ends_as (is_ok c.write_line-written.result) c.outcome_of.result c.when_written.result c.when_written.ensures)
