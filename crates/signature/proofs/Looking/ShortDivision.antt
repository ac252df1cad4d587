-- Document 01's short division: where the raw and the corrected depth are one, M falls out and the code is that of S / (w·10,000,000).
use Prim.Native.Nat.{ℕ, ◌*◌, ◌<◌}
use mathlib.Core.Path.{◌≡◌, ap, ◌∙◌}
use mathlib.Core.List.{List}
use native.Mathlib.Nat as NatL
use lib.IntN.{ℤ, pos, ◌*ℤ◌}
use Rattle.whole.specs.Nearest.{code}
use Rattle.whole.proofs.NearestLaws.{code-scale}
use Rattle.rules.specs.Units.{sample_one}
use Rattle.rules.specs.Looking.Interpolation.{code_by, total}
use Rattle.rules.specs.declared.Colour.{Colour}
use Rattle.rules.specs.declared.Share.{Share}

-- for D = M·w, and any other that is M times a span
pub short-division : (table : List ℤ) (m span : ℕ) (c : Colour) (ss : List Share) → 0 < m → code_by m (m * span) table c ss ≡ code (total table c ss) (span * sample_one) m
unfolding code_by
short-division table m span c ss deep =
    ap (λ x. code (pos m *ℤ total table c ss) x m) (NatL.mul_assoc m span sample_one)
    ∙ code-scale m (total table c ss) (span * sample_one) m deep
