use Prim.Native.Nat.{ℕ, ◌+◌}
use mathlib.Core.Path.{ap}
use native.Mathlib.Omega.{arith}
use Rattle.whole.specs.declared.reciprocal.WideReciprocal.{WideReciprocal}
use Rattle.whole.proofs.Reciprocals.{wide-computed}
use Rattle.whole.proofs.reciprocal.WideReciprocal.of.Goals as goal

abbrev made : ℕ → ℕ → WideReciprocal
made k x = record { by = k; times = x + 1 }

pub returns : goal.returns
returns c =
    let by = c.args.by in
    ap (made by) (wide-computed by (omega (arith, c.requires.lt_by)))
