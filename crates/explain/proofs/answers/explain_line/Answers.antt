use Rattle.std.specs.Prelude.{is_ok, Err}
use mathlib.Core.Path.{sym, ap, ◌∙◌}
use Rattle.rules.proofs.Answers.{gives-is}
use Rattle.explain.specs.Questions.{given_as}
use Rattle.explain.proofs.Ends.{line-unknown, ends-refused, ends-shown}
use Rattle.explain.proofs.GivenLine.{refused-readable, line-seen}
use Rattle.explain.proofs.answers.explain_line.Goals as goal

pub returns-in_default : goal.returns-in_default
returns-in_default c =
    line-unknown _ _ _ c.refuse.ensures (sym c.of.ensures ∙ c.in_default.is) _

pub refuse_line-requires : goal.refuse_line-requires
refuse_line-requires c =
    λ e. refused-readable c.second_half.ensures (c.in-Err.is ∙ ap Err e)

pub show_look-written-requires : goal.show_look-written-requires
show_look-written-requires c =
    line-seen c.second_half.ensures c.in-Ok.is c.in-Some.depths (sym c.of.ensures ∙ c.in-Some.is)

pub returns-in-Err : goal.returns-in-Err
unfolding given_as
returns-in-Err c =
    ends-refused given_as (gives-is c.second_half.ensures) c.refuse_line.ensures (ap given_as c.in-Err.is)

pub returns-in-Ok : goal.returns-in-Ok
unfolding given_as
returns-in-Ok c =
    ends-shown given_as (gives-is c.second_half.ensures) (is_ok c.show_look-written.result) c.done_if.result c.done_if.ensures (ap given_as c.in-Ok.is)
