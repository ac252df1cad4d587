-- By what is to be said.
use mathlib.Core.Path.{sym, subst}
use mathlib.Core.Logic.{inl}
use Rattle.std.specs.Prelude.{is_ok}
use Rattle.desk.specs.Outcomes.{EndsAs}
use Rattle.desk.specs.declared.outcomes.Outcome.TheVariants.{Done}
use Rattle.desk.proofs.Ends.{ends_as}
use Rattle.invert.specs.Saying.{end_of}
use Rattle.invert.proofs.show.show_said.Goals as goal

pub returns-in-Ok-Hit : goal.returns-in-Ok-Hit
unfolding end_of
returns-in-Ok-Hit c = subst (λ s. EndsAs (end_of s) c.when_written.result) (sym c.in-Ok-Hit.is) (ends_as (is_ok c.show_hit-shown.result) Done _ c.when_written.ensures)

pub returns-in-Ok-Near : goal.returns-in-Ok-Near
unfolding end_of
returns-in-Ok-Near c = subst (λ s. EndsAs (end_of s) c.when_written-in-Ok-Near.result) (sym c.in-Ok-Near.is) (ends_as (is_ok c.show_near-shown.result) Done _ c.when_written-in-Ok-Near.ensures)

pub returns-in-Err : goal.returns-in-Err
unfolding end_of
returns-in-Err c = subst (λ s. EndsAs (end_of s) c.refuse.result) (sym c.in-Err.is) (inl c.refuse.ensures)
