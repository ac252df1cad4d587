-- A path over places of the table is the definition's path over rows: it starts at the place of the first row and each stride is that of the rows, three places
-- to a row. So its sum is the definition's, and it fits where every row stands in the table: the last row is below their count, and the weights add up to D.
use Prim.Native.Nat.{ℕ, ◌+◌, ◌*◌, ◌≤◌, ◌<◌}
use mathlib.Core.Path.{◌≡◌, refl, sym, ap, ap₂, subst, ◌∙◌}
use mathlib.Core.List.{List}
use native.Mathlib.Omega.{arith}
use lib.IntN.{ℤ, pos, nat_abs, ◌+ℤ◌, ◌*ℤ◌}
use Rattle.rules.specs.Units.{row_at, stride, sample_at}
use Rattle.rules.specs.Looking.Interpolation.{1st, 2nd, 3rd, path_by, climb, total}
use Rattle.rules.specs.declared.Colour.{Colour}
use Rattle.rules.proofs.Looking.RowsAndWeights.{path-rows}
use Rattle.colour.specs.Limits.{den_limit}
use Rattle.colour.specs.Adding.{RowAt}
use Rattle.lanes.specs.Paths.{fraction_in, stride_in, CornerIs, Climbs, sample_from, weighed_at, path_total, PathFits}
use Rattle.lanes.specs.declared.path.Corner.{Corner}
use Rattle.lanes.specs.declared.path.Path.{Path}

-- ---- one corner

module _ (table : List ℤ) {place weight : ℕ} {corner : Corner} (row : ℕ) (h : CornerIs place weight corner) (e : place ≡ 3 * row) where
  weighed : (k : Colour) → weighed_at table k corner ≡ pos weight *ℤ sample_at table row k
  weighed k = ap₂ (λ w p. w *ℤ sample_from table p k) h.weight_is (h.place_is ∙ e)

  stands : RowAt table (3 * row) → RowAt table corner.place
  stands = subst (RowAt table) (sym (h.place_is ∙ e))

carries : {place weight : ℕ} {corner : Corner} → CornerIs place weight corner → nat_abs corner.weight.0 ≡ weight
carries h = ap nat_abs h.weight_is

-- ---- all four

module _ {start den : ℕ} {keys : Colour → ℕ} {path : Path} (table : List ℤ) (n : ℕ) (i : Colour → ℕ)
    (c : Climbs start den keys path) (s : start ≡ 3 * row_at n i) (t : (k : Colour) → stride_in keys k ≡ 3 * stride n k) where
  abbrev second-row : ℕ
  second-row = row_at n i + stride n (1st c.order)

  abbrev third-row : ℕ
  third-row = second-row + stride n (2nd c.order)

  abbrev fourth-row : ℕ
  fourth-row = third-row + stride n (3rd c.order)

  second-place : start + stride_in keys (1st c.order) ≡ 3 * second-row
  second-place = omega (arith, s, t (1st c.order))

  third-place : start + stride_in keys (1st c.order) + stride_in keys (2nd c.order) ≡ 3 * third-row
  third-place = omega (arith, second-place, t (2nd c.order))

  fourth-place : start + stride_in keys (1st c.order) + stride_in keys (2nd c.order) + stride_in keys (3rd c.order) ≡ 3 * fourth-row
  fourth-place = omega (arith, third-place, t (3rd c.order))

  pub walked : (k : Colour) → path_total table k path ≡ total table k (path_by n den i (fraction_in keys) c.order)
  unfolding path_by climb
  walked k =
      ap₂ ◌+ℤ◌ (weighed table (row_at n i) c.first s k)
      (ap₂ ◌+ℤ◌ (weighed table second-row c.second second-place k)
      (ap₂ ◌+ℤ◌ (weighed table third-row c.third third-place k)
      (ap₂ ◌+ℤ◌ (weighed table fourth-row c.fourth fourth-place k) refl)))

  pub walked-fits : den ≤ den_limit → ((k : Colour) → fraction_in keys k ≤ den) → ((k : Colour) → i k + 2 ≤ n)
      → ((row : ℕ) → row < n * n * n → RowAt table (3 * row)) → PathFits table path
  unfolding path_by climb
  walked-fits narrow part cell rows =
      let below = path-rows n den i (fraction_in keys) c.order cell in
      record {
        first = stands table (row_at n i) c.first s (rows _ below.0);
        second = stands table second-row c.second second-place (rows _ below.1.0);
        third = stands table third-row c.third third-place (rows _ below.1.1.0);
        fourth = stands table fourth-row c.fourth fourth-place (rows _ below.1.1.1.0);
        weights = omega (
          arith,
          carries c.first,
          carries c.second,
          carries c.third,
          carries c.fourth,
          part (1st c.order),
          c.descends.upper,
          c.descends.lower,
          narrow,
        );
      }
