-- A run of rows, and the samples that it puts into a table: none yet, and one row more.
use Prim.Native.Nat.{ℕ, ◌+◌, ◌*◌, ◌≤◌, ◌<◌}
use mathlib.Core.Path.{◌≡◌, refl, sym, ap, subst, ◌∙◌}
use mathlib.Core.List.{List, [], ◌∷◌, ◌++◌, append_assoc, flatten, map}
use native.Mathlib.Omega.{arith}
use mir.Syntax.{w64}
use mir.Val.{of_z, to_z}
use lib.IntN.{ℤ, nat_abs}
use lib.ListN.{length, set, length-append}
use Rattle.whole.proofs.Held.{of}
use Rattle.rules.specs.Units.{sample_limit}
use Rattle.rules.specs.Memory.{spliced}
use Rattle.rules.specs.Reading.Items.{numbers_of}
use Rattle.rules.specs.declared.Row.{Row}
use Rattle.rules.proofs.Memory.{splice-both, splice-length, splice-none, three-written}
use Rattle.rules.proofs.Reading.Acceptance.{samples-length}
use Rattle.plain.specs.Shapes.{Passed, Put, RowAt, RowsAt}
use Rattle.plain.specs.declared.rows.Run.{Run}

abbrev run : ℕ → ℕ → Run
run rows at = record { rows = rows; at = at }

-- ---- rows passed

pub none_passed : (s : List ℕ) (from most : ℕ) → Passed s from most (run 0 from)
none_passed s from most = record { rows = []; there = refl; counted = refl; few = omega arith }

rows_more : {s : List ℕ} {at end : ℕ} {r : Row} (from : ℕ) (rs : List Row) → RowsAt s from rs at → RowAt s at end r → RowsAt s from (rs ++ (r ∷ [])) (end + 1)
rows_more {s} {at} {end} {r} from [] here row = (end, subst (λ p. RowAt s p end r) here row, refl)
rows_more from (q ∷ rs) (e, first, rest) row = (e, first, rows_more (e + 1) rs rest row)

module _ {s : List ℕ} {from most rows at : ℕ} (p : Passed s from most (run rows at)) (left : rows < most) {end : ℕ} {r : Row} (row : RowAt s at end r) where
  pub one-passed : Passed s from most (run (rows + 1) (end + 1))
  one-passed = record {
    rows = p.rows ++ (r ∷ []);
    there = rows_more from p.rows p.there row;
    counted = omega (arith, p.counted, length-append p.rows (r ∷ []));
    few = omega arith;
  }

-- ---- their samples put into a table

-- a number as a machine's word gives it back
abbrev kept : ℤ → ℤ
kept v = to_z w64 (of_z w64 v)

record Kept (r : Row) : Type 0 where
  red : kept r.red.0 ≡ r.red.0
  green : kept r.green.0 ≡ r.green.0
  blue : kept r.blue.0 ≡ r.blue.0

row_kept : {s : List ℕ} {at end : ℕ} {r : Row} → RowAt s at end r → Kept r
row_kept row =
    let n = (row.line 0).gives in
    record { red = small n.red.within; green = small n.green.within; blue = small n.blue.within }
  where
    small : {v : ℤ} → nat_abs v ≤ sample_limit → kept v ≡ v
    small {v} h = (of v sample_limit h (omega arith)).reads

abbrev samples : List Row → List ℤ
samples rs = flatten (map numbers_of rs)

samples-more : (rs : List Row) (r : Row) → samples (rs ++ (r ∷ [])) ≡ samples rs ++ numbers_of r
unfolding flatten
samples-more [] r = refl
samples-more (q ∷ rs) r = ap (λ xs. numbers_of q ++ xs) (samples-more rs r) ∙ sym (append_assoc (numbers_of q) (samples rs) (numbers_of r))

pub none-put : (s : List ℕ) (from most : ℕ) (table : List ℤ) (to : ℕ) → Put s from most (run 0 from) table to table
unfolding flatten none_passed
none-put s from most table to = record { passed = none_passed s from most; table = sym (splice-none table to) }

module _ {s : List ℕ} {from most rows at : ℕ} {old : List ℤ} {to : ℕ} {table : List ℤ} (p : Put s from most (run rows at) old to table) (room : to + 3 * most ≤ length old) where
  abbrev done : List ℤ
  done = samples p.passed.rows

  done-long : length done ≡ 3 * rows
  done-long = samples-length p.passed.rows ∙ ap (λ n. 3 * n) (sym p.passed.counted)

  done-fits : to + length done ≤ length old
  done-fits = omega (arith, done-long, p.passed.few)

  pub same-length-put : length table ≡ length old
  same-length-put = ap length p.table ∙ splice-length old to done done-fits

  -- the samples as a machine's words give them back
  pub one-put : (left : rows < most) {end : ℕ} {r : Row} (row : RowAt s at end r) {place : ℕ} → place ≡ to + 3 * rows
      → Put s from most (run (rows + 1) (end + 1)) old to (set (set (set table place (kept r.red.0)) (place + 1) (kept r.green.0)) (place + 2) (kept r.blue.0))
  unfolding one-passed
  one-put left {end} {r} row {place} here = record {
    passed = one-passed p.passed left row;
    table = three-written table place _ _ _ (omega (arith, same-length-put))
        ∙ ap (spliced table place) (λ i. held.red i ∷ held.green i ∷ held.blue i ∷ [])
        ∙ ap (λ t. spliced t place (numbers_of r)) p.table
        ∙ ap (λ n. spliced (spliced old to done) n (numbers_of r)) place_is
        ∙ splice-both old to done (numbers_of r) done-fits
        ∙ ap (spliced old to) (sym (samples-more p.passed.rows r));
  }
    where
      place_is : place ≡ to + length done
      place_is = omega (arith, done-long)

      held : Kept r
      held = row_kept row
