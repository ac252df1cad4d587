-- The least and the greatest code of the rows that carry a colour's weight.
use Rattle.std.specs.Prelude.{ℕ, ◌<◌, min, max, ◌≡◌, Bool, true, cond, List, [], ◌∷◌, ℤ, pos}
use Rattle.std.specs.Int.Signed.{lt_z}
use Rattle.rules.specs.Units.{raw_m, corrected_m}
use Rattle.rules.specs.Descriptions.{rows, could_be_read}
use Rattle.rules.specs.Looking.Interpolation.{den_of, row_code}
use Rattle.rules.specs.Looking.{used}
use Rattle.rules.specs.Demands.{Each}
use Rattle.rules.specs.declared.Colour.{Colour}
use Rattle.rules.specs.declared.Depths.{Depths}
use Rattle.rules.specs.declared.Description.{Description}
use Rattle.rules.specs.declared.Share.{Share}
use Rattle.rules.specs.declared.Shares.{Shares}
use Rattle.explain.specs.declared.rows.Span.{Span}

-- whether a row carries weight
unfoldable pub carries : Share → Bool
carries s = lt_z (pos 0) s.weight

-- with one row more, by what code a row has; a row that carries no weight changes nothing
unfoldable pub widened : (ℕ → ℕ) → Share → Span → Span
widened code_of s span =
    cond (carries s) (record { least = min (code_of s.row) span.least; greatest = max (code_of s.row) span.greatest }) span

-- of all that carry weight, for codes up to m; of none, the least is m and the greatest 0
unfoldable pub span_of : (ℕ → ℕ) → ℕ → List Share → Span
span_of code_of m [] = record { least = m; greatest = 0 }
span_of code_of m (s ∷ ss) = widened code_of s (span_of code_of m ss)

-- what is shown of a colour
abbrev pub shown_span : Description → List ℤ → Depths → Shares → Colour → Span
shown_span d table depths shares c = span_of (row_code (corrected_m depths) (den_of d (raw_m depths) c) table c) (corrected_m depths) (used d.kind c shares)

-- what is asked of a look that is shown
pub record Seen (d : Description) (table : List ℤ) (depths : Depths) (shares : Shares) : Type 0 where
  pub could : could_be_read d table ≡ true
  pub deep : 0 < raw_m depths
  pub in_table : (c : Colour) → Each (λ s. s.row < rows d) (used d.kind c shares)
