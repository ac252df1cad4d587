-- A row's code is the code of its sample by itself: the D that it carries alone falls out.
use Prim.Native.Nat.{ℕ, ◌<◌}
use mathlib.Core.Path.{◌≡◌, sym, ap, ◌∙◌}
use mathlib.Core.List.{List}
use native.Mathlib.Nat as NatL
use lib.IntN.{ℤ, pos, ◌*ℤ◌, +ℤ_idr}
use Rattle.whole.specs.Nearest.{code}
use Rattle.whole.proofs.Halves as H
use Rattle.whole.proofs.NearestLaws.{code-scale}
use Rattle.rules.specs.Units.{sample_one, sample_at}
use Rattle.rules.specs.Looking.Interpolation.{denominator, code_by, row_code}
use Rattle.rules.specs.declared.Colour.{Colour}

pub weights-exchanged : (m den : ℕ) (z : ℤ) → pos m *ℤ (pos den *ℤ z) ≡ pos den *ℤ (pos m *ℤ z)
weights-exchanged m den z = sym (H.mul_assoc m den z) ∙ ap (λ k. pos k *ℤ z) (NatL.mul_comm m den) ∙ H.mul_assoc den m z

pub row-by-itself : (m den : ℕ) (table : List ℤ) (c : Colour) (row : ℕ) → 0 < den
    → code (pos m *ℤ sample_at table row c) sample_one m ≡ row_code m den table c row
unfolding code_by
row-by-itself m den table c row wide =
    let sample = sample_at table row c in
    sym (code-scale den (pos m *ℤ sample) sample_one m wide)
    ∙ ap (λ z. code z (denominator den) m) (sym (weights-exchanged m den sample) ∙ ap (λ z. pos m *ℤ z) (sym (+ℤ_idr (pos den *ℤ sample))))
