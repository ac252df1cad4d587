-- Past 24, the inverse knows a description and a table by what each raw code is corrected to in its colour: where two have the same, it answers the same. So what
-- stands in a table past 3·rows plays no part in it.
use Prim.Native.Nat.{ℕ, ◌+◌, ◌*◌, ◌≤◌}
use mathlib.Core.Path.{◌≡◌, refl, ap, ap₂, subst, ◌∙◌}
use mathlib.Core.Bool.{Bool, true, false, cond, ◌&&◌, false≢true}
use mathlib.Core.List.{List}
use native.Mathlib.Omega.{arith}
use lib.Dec.{leb}
use lib.IntN.{ℤ, pos, ◌*ℤ◌}
use lib.ListN.{take}
use Rattle.whole.specs.Nearest.{code}
use Rattle.rules.specs.Units.{depths_of, raw_m, corrected_m, rows_of}
use Rattle.rules.specs.Descriptions.{rows, could_be_read}
use Rattle.rules.specs.Looking.Interpolation.{index, index_at, fraction_at, pair_at, den_of, denominator, code_by}
use Rattle.rules.specs.Looking.{line_code}
use Rattle.rules.specs.Inverting.{Search, off, search, is_line, if_within, inverse_at, inverse}
use Rattle.rules.specs.declared.Aim.{Aim}
use Rattle.rules.specs.declared.Bits.{Bits}
use Rattle.rules.specs.declared.Colour.{Colour}
use Rattle.rules.specs.declared.Depths.{Depths}
use Rattle.rules.specs.declared.Description.{Description}
use Rattle.rules.specs.declared.Kind.{Kind}
use Rattle.rules.specs.declared.Kind.TheVariants.{OneD, ThreeD}
use Rattle.rules.specs.declared.Refusal.TheVariants.{CodeTooGreat, CouldNotBeRead}
use Rattle.rules.proofs.Tests.{and_both}
use Rattle.rules.proofs.Sound.{sound-of}
use Rattle.rules.proofs.Looking.RowsAndWeights.{pair-rows}
use Rattle.signature.proofs.LaterPlaces.{later-24, later-total}
use Rattle.std.specs.Prelude.{None, Option, Some}
use Rattle.rules.specs.Results.{Inverse, no_inverse}

-- ---- two that have the same

-- the inverse at known depths, by what each raw code is corrected to
abbrev inverse_with : (ℕ → ℕ) → Depths → Aim → Inverse
inverse_with corrected depths aim =
    let s : Search = search corrected aim.wanted (raw_m depths) in
    cond (leb aim.wanted (corrected_m depths)) (if_within (off corrected aim.wanted s.nearest) aim.tolerance s) (no_inverse CodeTooGreat 0)

is-line : (k : Kind) → is_line k ≡ true → k ≡ OneD
is-line OneD e = refl
is-line ThreeD e = absurd (false≢true e)

module _ (d e : Description) (table other : List ℤ) (bits : Bits) (aim : Aim) where
  pub same_lines : d.kind ≡ e.kind → could_be_read d table ≡ could_be_read e other
      → (d.kind ≡ OneD → could_be_read d table ≡ true → (depths : Depths) → line_code d table depths aim.colour ≡ line_code e other depths aim.colour)
      → inverse d table bits aim ≡ inverse e other bits aim
  unfolding inverse inverse_at
  same_lines kinds could lines =
      by (is_line d.kind && could_be_read d table) refl ∙ ap₂ (λ k t. cond (is_line k && t) (inverse_at e other aim (depths_of bits)) (no_inverse CouldNotBeRead 0)) kinds could
    where
      at : d.kind ≡ OneD → could_be_read d table ≡ true → (x : Option Depths) → inverse_at d table aim x ≡ inverse_at e other aim x
      at line read None = refl
      at line read (Some depths) = ap (λ corrected. inverse_with corrected depths aim) (lines line read depths)

      by : (t : Bool) → is_line d.kind && could_be_read d table ≡ t
          → cond t (inverse_at d table aim (depths_of bits)) (no_inverse CouldNotBeRead 0) ≡ cond t (inverse_at e other aim (depths_of bits)) (no_inverse CouldNotBeRead 0)
      by true q = let (line, read) = and_both (is_line d.kind) (could_be_read d table) q in at (is-line d.kind line) read (depths_of bits)
      by false q = refl

-- ---- tables with the same 3·rows first places, whatever stands after them

module _ (d : Description) (table other : List ℤ) (same : take (3 * rows d) table ≡ take (3 * rows d) other) where
  -- the two rows of any code are rows of the table
  later-code : d.kind ≡ OneD → could_be_read d table ≡ true → (depths : Depths) (c : Colour) (raw : ℕ) → line_code d table depths c raw ≡ line_code d other depths c raw
  unfolding code_by index
  later-code line read depths c raw =
      ap (λ z. code (pos (corrected_m depths) *ℤ z) (denominator (den_of d m c)) (corrected_m depths))
      (later-total table other d.n first c (pair_at d m c raw) (pair-rows d.n (den_of d m c) (index_at d m c raw) (fraction_at d m c raw) cell))
    where
      m : ℕ
      m = raw_m depths

      first : take (3 * d.n) table ≡ take (3 * d.n) other
      first = subst (λ k. take (3 * rows_of k d.n) table ≡ take (3 * rows_of k d.n) other) line same

      cell : index_at d m c raw + 2 ≤ d.n
      cell = omega (arith, (sound-of d table read).least)

  pub later-inverse : (bits : Bits) (aim : Aim) → inverse d table bits aim ≡ inverse d other bits aim
  later-inverse bits aim = same_lines d d table other bits aim refl (later-24 table other d same) (λ line read depths i raw. later-code line read depths aim.colour raw i)
