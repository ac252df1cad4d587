-- The rows that the first half of eleven numbers answers fit.
use mathlib.Core.Path.{sym, ap, subst, ◌∙◌}
use mathlib.Core.List.{map}
use Rattle.rules.specs.declared.Share.{Share}
use Rattle.rules.specs.Boundary.{RowsFit}
use Rattle.rules.proofs.Boundary.Fits.{first-rows-fit-in}
use Rattle.erythmoda.proofs.erythmoda_rows.Goals as goal

pub rows_laid-requires : goal.rows_laid-requires
rows_laid-requires c =
    subst RowsFit (sym (ap (map (λ (s : Share). s.row)) c.first_shares-shares.ensures ∙ c.rows_in-answer.ensures.rows)) (first-rows-fit-in _ _ _ _)
