-- What plays no part in `erythmoda_inverse`: table places past 3·rows.
use Prim.Native.Nat.{ℕ, ◌*◌}
use mathlib.Core.Path.{◌≡◌, refl, ap, ◌∙◌}
use mathlib.Core.List.{List}
use lib.IntN.{ℤ}
use lib.ListN.{take}
use Rattle.rules.specs.Descriptions.{rows}
use Rattle.rules.specs.Answers.{inverse_number, inverse_code, inverse_count}
use Rattle.rules.specs.Boundary.{described_in, colour_in, aim_at, inverse_for, inverse_in, InvertsC}
use Rattle.rules.specs.declared.Bits.{Bits}
use Rattle.rules.specs.declared.Colour.{Colour}
use Rattle.rules.specs.declared.Description.{Description}
use Rattle.signature.proofs.Inverting.SameLines.{later-inverse}
use Rattle.signature.proofs.Boundary.NoPart.{same-of-both}
use Rattle.std.specs.Prelude.{None, Option, Some}

pub later-inverse-c : {eleven table table₂ : List ℤ} {bits : Bits} {colour wanted tolerance number code' count' : ℕ}
    → ((d : Description) → described_in eleven ≡ Some d → take (3 * rows d) table ≡ take (3 * rows d) table₂)
    → InvertsC eleven table bits colour wanted tolerance number code' count' → InvertsC eleven table₂ bits colour wanted tolerance number code' count'
later-inverse-c {eleven} {table} {table₂} {bits} {colour} {wanted} {tolerance} same h =
    record { number_so = h.number_so ∙ ap inverse_number alike; code_so = h.code_so ∙ ap inverse_code alike; count_so = h.count_so ∙ ap inverse_count alike }
  where
    by : (d : Description) → described_in eleven ≡ Some d → (o : Option Colour) → inverse_for d table bits wanted tolerance o ≡ inverse_for d table₂ bits wanted tolerance o
    by d e None = refl
    by d e (Some c) = later-inverse d table table₂ (same d e) bits (aim_at c wanted tolerance)

    alike : inverse_in eleven table bits colour wanted tolerance ≡ inverse_in eleven table₂ bits colour wanted tolerance
    alike =
        same-of-both eleven _ (λ d. inverse_for d table bits wanted tolerance (colour_in colour)) (λ d. inverse_for d table₂ bits wanted tolerance (colour_in colour))
        (λ d e. by d e (colour_in colour))
