-- The scales are those of known depths.
use mathlib.Core.Path.{sym, subst}
use Rattle.colour.specs.Ratios.{ratio_of, InTerms}
use Rattle.colour.proofs.Ratios.{ratio-known}
use Rattle.correct.specs.Jobs.{bits_in, depths_in}
use Rattle.correct.proofs.Agreeing.{agrees-known}
use Rattle.correct.proofs.pictures.pass_job.Goals as goal

pub plan_of-plan-requires-clause-in_terms : goal.plan_of-plan-requires-clause-in_terms
plan_of-plan-requires-clause-in_terms c =
    let scales = c.args.job.scales in
    subst (λ x. InTerms (ratio_of x) x) (sym c.depths_in.ensures) (ratio-known (bits_in scales) (depths_in scales) (agrees-known c.requires.agrees))
