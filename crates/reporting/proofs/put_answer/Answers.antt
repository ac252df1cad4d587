use mathlib.Core.Path.{◌≡◌, sym, ◌∙◌}
use Rattle.rules.specs.Answers.{refusal_number}
use Rattle.rules.specs.Reporting.{refused_line, answer_text, report_text}
use Rattle.reporting.proofs.Answered.{answered, tellable, room, reports}
use borrow.Author.Rules.{rules}
use Rattle.reporting.proofs.put_answer.Goals as goal
use Rattle.std.specs.Prelude.{Ok}

-- The answer's text is put from the first byte on.
-- accepted

-- refused

pub put_accepted-requires : goal.put_accepted-requires
put_accepted-requires c =
    let accepted-text : let input = c.args.input.now in report_text input ≡ answer_text input (Ok c.in-Ok.d) = answered _ c.requires c.in-Ok.is in
    record { tellable = tellable _ (sym c.in-Ok.is ∙ c.requires); room = room _ accepted-text (search rules) }

pub put_refused-requires : goal.put_refused-requires
unfolding answer_text
put_refused-requires c =
    let refused-text : report_text c.args.input.now ≡ refused_line (refusal_number c.in-Err.refused.reason) c.in-Err.refused.line = answered _ c.requires c.in-Err.is in
    room _ refused-text (search rules)

pub returns-in-Ok : goal.returns-in-Ok
returns-in-Ok c =
    let accepted-text : let input = c.args.input.now in report_text input ≡ answer_text input (Ok c.in-Ok.d) = answered _ c.requires c.in-Ok.is in
    reports _ accepted-text c.put_accepted.ensures

pub returns-in-Err : goal.returns-in-Err
unfolding answer_text
returns-in-Err c =
    let refused-text : report_text c.args.input.now ≡ refused_line (refusal_number c.in-Err.refused.reason) c.in-Err.refused.line = answered _ c.requires c.in-Err.is in
    reports _ refused-text c.put_refused.ensures
