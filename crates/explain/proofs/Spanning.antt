-- A colour's rows as the code keeps them, and the span of their codes: the two that carry nothing in 1D change no span.
use Prim.Native.Nat.{ℕ, ◌*◌, ◌<◌, min, max}
use mathlib.Core.Path.{◌≡◌, refl, ap, ap₂, sym, subst, ◌∙◌}
use mathlib.Core.Bool.{true, false}
use mathlib.Core.List.{List}
use native.Mathlib.Nat.{mul-pos}
use lib.IntN.{ℤ}
use Rattle.rules.specs.Units.{raw_m, corrected_m, in_range}
use Rattle.rules.specs.Descriptions.{rows, Sound}
use Rattle.rules.specs.Looking.Interpolation.{den_of, row_code}
use Rattle.rules.specs.Looking.{used}
use Rattle.rules.specs.Demands.{Each}
use Rattle.rules.specs.declared.Colour.{Colour}
use Rattle.rules.specs.declared.Colour.TheVariants.{Red, Green, Blue}
use Rattle.rules.specs.declared.Depths.{Depths}
use Rattle.rules.specs.declared.Description.{Description}
use Rattle.rules.specs.declared.Kind.{Kind}
use Rattle.rules.specs.declared.Kind.TheVariants.{OneD, ThreeD}
use Rattle.rules.specs.declared.Share.{Share}
use Rattle.rules.specs.declared.Shares.{Shares}
use Rattle.rules.proofs.Sound.{sound-of, sound-range, sound-rows}
use Rattle.rules.proofs.Looking.Spans.{span-some}
use Rattle.colour.specs.Adding.{RowAt}
use Rattle.colour.proofs.Weighing.{row-stands, rows-stand}
use Rattle.halves.specs.Listed.{listed, four_of}
use Rattle.halves.specs.declared.fours.Four.{Four}
use Rattle.explain.specs.declared.rows.Span.{Span}
use Rattle.explain.specs.Spans.{carries, widened, span_of, shown_span, Seen}

pub four-spans : (code_of : ℕ → ℕ) (m : ℕ) (k : Kind) (c : Colour) (shares : Shares) → span_of code_of m (four_of k c shares) ≡ span_of code_of m (used k c shares)
unfolding span_of widened carries
four-spans code_of m ThreeD c shares = refl
four-spans code_of m OneD Red shares = refl
four-spans code_of m OneD Green shares = refl
four-spans code_of m OneD Blue shares = refl

-- ---- one row more

module _ (code_of : ℕ → ℕ) (s : Share) (span : Span) where
  pub idle-same : carries s ≡ false → span ≡ widened code_of s span
  unfolding widened
  idle-same e = rw e

  pub carrying-widens : (code least greatest : ℕ) → carries s ≡ true → code ≡ code_of s.row → least ≡ min code span.least → greatest ≡ max code span.greatest
      → record { least = least; greatest = greatest } ≡ widened code_of s span
  unfolding widened
  carrying-widens code least greatest e is low high =
      rw e (ap₂ (λ a b. record { least = a; greatest = b }) (low ∙ ap (λ x. min x span.least) is) (high ∙ ap (λ x. max x span.greatest) is))

-- ---- the rows of a look that is shown stand in the table

module _ {d : Description} {table : List ℤ} {depths : Depths} {shares : Shares} (seen : Seen d table depths shares) where
  abbrev sound : Sound d table
  sound = sound-of d table seen.could

  first-row : RowAt table 0
  first-row = row-stands d table sound 0 (sound-rows d table sound)

  pub four-stand : (k : Kind) → d.kind ≡ k → (c : Colour) → Each (λ s. RowAt table (3 * s.row)) (four_of k c shares)
  four-stand k e c = by k c (rows-stand d table sound (used k c shares) (subst (λ x. Each (λ s. s.row < rows d) (used x c shares)) e (seen.in_table c)))
    where
      by : (k : Kind) (c : Colour) → Each (λ s. RowAt table (3 * s.row)) (used k c shares) → Each (λ s. RowAt table (3 * s.row)) (four_of k c shares)
      by ThreeD c h = h
      by OneD Red h = (h.0, (h.1.0, (first-row, (first-row, tt))))
      by OneD Green h = (h.0, (h.1.0, (first-row, (first-row, tt))))
      by OneD Blue h = (h.0, (h.1.0, (first-row, (first-row, tt))))

  pub in-range : in_range d.kind d.n ≡ true
  in-range = sound-range d table sound

  pub den-there : (c : Colour) → 0 < den_of d (raw_m depths) c
  den-there c = mul-pos seen.deep (span-some _ sound c)

  pub listed-stand : (c : Colour) (four : Four) → listed four ≡ four_of d.kind c shares → Each (λ s. RowAt table (3 * s.row)) (listed four)
  listed-stand c four e = subst (Each (λ s. RowAt table (3 * s.row))) (sym e) (four-stand d.kind refl c)

  -- the span of the four is what is shown
  pub four-shown : (c : Colour) (four : Four) → listed four ≡ four_of d.kind c shares
      → let m = corrected_m depths in span_of (row_code m (den_of d (raw_m depths) c) table c) m (listed four) ≡ shown_span d table depths shares c
  four-shown c four e =
      let m = corrected_m depths in
      let code_of = row_code m (den_of d (raw_m depths) c) table c in
      ap (span_of code_of m) e ∙ four-spans code_of m d.kind c shares
