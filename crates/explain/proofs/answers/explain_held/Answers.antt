use Rattle.std.specs.Prelude.{is_ok}
use mathlib.Core.Path.{sym, ap, ◌∙◌}
use Rattle.rules.proofs.Answers.{looks-is}
use Rattle.explain.specs.Questions.{looked_as}
use Rattle.explain.proofs.Between.{seen}
use Rattle.explain.proofs.Ends.{look-unknown, ends-refused, ends-shown}
use Rattle.explain.proofs.answers.explain_held.Goals as goal

pub returns-in_default : goal.returns-in_default
returns-in_default c =
    look-unknown _ _ _ c.refuse.ensures (sym c.of.ensures ∙ c.in_default.is) _

pub show_pixel_look-written-requires : goal.show_pixel_look-written-requires
show_pixel_look-written-requires c =
    seen c.look.ensures c.in-Ok.is c.in-Some.depths (sym c.of.ensures ∙ c.in-Some.is)

pub returns-in-Err : goal.returns-in-Err
unfolding looked_as
returns-in-Err c =
    ends-refused looked_as (looks-is c.look.ensures) c.refuse-in-Err.ensures (ap looked_as c.in-Err.is)

pub returns-in-Ok : goal.returns-in-Ok
unfolding looked_as
returns-in-Ok c =
    ends-shown looked_as (looks-is c.look.ensures) (is_ok c.show_pixel_look-written.result) c.done_if.result c.done_if.ensures (ap looked_as c.in-Ok.is)
