use mathlib.Core.Path.{ap}
use lib.IntN.{pos}
use lib.Signed.{lt_z}
use mir.Syntax.{w64}
use mir.ValLaws.{to_z-of_z}
use Rattle.explain.specs.Spans.{carries}
use Rattle.explain.proofs.rows.carries.Goals as goal

-- The weight is an i64.
pub returns : goal.returns
unfolding carries
returns c = ap (lt_z (pos 0)) (to_z-of_z w64 c.args.share.weight (record { sfits = c.struct_told-1.given.1.0.1 }))
