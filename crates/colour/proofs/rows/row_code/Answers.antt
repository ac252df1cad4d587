use mathlib.Core.Path.{◌≡◌, ap, ◌∙◌}
use lib.IntN.{pos, ◌*ℤ◌}
use Rattle.whole.specs.Nearest.{code}
use Rattle.rules.specs.Units.{sample_one, sample_at}
use Rattle.colour.proofs.RowCodes.{row-by-itself}
use Rattle.colour.proofs.rows.row_code.Goals as goal
use Rattle.colour.proofs.rows.row_code.Lts as lts
use Rattle.colour.proofs.rows.row_code.Reads as reads
use Rattle.colour.proofs.rows.row_code.Tie as ties

abbrev After-sample_of : Type 0
After-sample_of = lts.After-sample_of ties.the-claims reads.Pre reads.Post

-- A row's code is that of its sample.
sample-there : (c : After-sample_of) → let a = c.args in c.sample_of.result.0 ≡ sample_at a.table.now a.row a.c
sample-there c = c.sample_of.ensures ∙ c.row_part.ensures.number c.args.c

pub returns : goal.returns
returns c =
    let a = c.args in
    λ den wide. c.sample_code.ensures
    ∙ ap (λ z. code (pos a.m *ℤ z) sample_one a.m) (sample-there c.before)
    ∙ row-by-itself a.m den a.table.now a.c a.row wide
