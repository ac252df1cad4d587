-- The promise of the inverse (document 02, Req 04) refutes wrong programs. What such a program does is said of any program at all; that it keeps the promise is then
-- absurd, at an input that the theorem holds.
use Prim.Native.Nat.{ℕ}
use Prim.Native.String.{String}
use mathlib.Core.Path.{◌≡◌, sym, ◌∙◌}
use mathlib.Core.List.{List}
use native.Mathlib.Omega.{arith}
use lib.IntN.{ℤ}
use Rattle.rules.specs.Units.{bits_of, same_bits}
use Rattle.rules.specs.Answers.{inverse_number, inverse_code, inverse_count}
use Rattle.rules.specs.Boundary.{aim_at}
use Rattle.rules.specs.Promises.{Inverts}
use Rattle.rules.specs.declared.Aim.{Aim}
use Rattle.rules.specs.declared.Bits.{Bits}
use Rattle.rules.specs.declared.Colour.{Colour}
use Rattle.rules.specs.declared.Colour.TheVariants.{Red, Green, Blue}
use Rattle.rules.specs.declared.Description.{Description}
use Rattle.signature.specs.Cases.{described_by, table_from, one_row, corner, three_slopes, falling, peak}
use Rattle.signature.proofs.Cases.{opened}
use Rattle.rules.specs.Results.{Inverse}

abbrev pub Inverter : Type 0
Inverter = Description → List ℤ → Bits → Aim → Inverse

abbrev pub InvertsAll : Inverter → Type 0
InvertsAll f = (d : Description) (table : List ℤ) (bits : Bits) (aim : Aim) → Inverts d table bits aim (f d table bits aim)

module _ (f : Inverter) (keeps : InvertsAll f) where
  -- its answer, of a file's table: for a colour, a wanted code and a tolerance
  abbrev found : String → Bits → Colour → ℕ → ℕ → Inverse
  found file bits c wanted tolerance = f (described_by file) (table_from file) bits (aim_at c wanted tolerance)

  abbrev kept : (file : String) (bits : Bits) (c : Colour) (wanted tolerance : ℕ)
      → Inverts (described_by file) (table_from file) bits (aim_at c wanted tolerance) (found file bits c wanted tolerance)
  kept file bits c wanted tolerance = keeps (described_by file) (table_from file) bits (aim_at c wanted tolerance)

  -- of the table by which codes 0 to 4 give 0, 1, 1, 2, 2 in red, 0 to 4 in green, and 0, 2, 4, 6, 8 in blue
  abbrev of : Colour → ℕ → ℕ → Inverse
  of c wanted tolerance = found three_slopes (same_bits 8) c wanted tolerance

  abbrev kept_of : (c : Colour) (wanted tolerance : ℕ) → Inverts (described_by three_slopes) (table_from three_slopes) (same_bits 8) (aim_at c wanted tolerance) (of c wanted tolerance)
  kept_of c wanted tolerance = kept three_slopes (same_bits 8) c wanted tolerance

  pub refuses-all-aims : ((d : Description) (table : List ℤ) (bits : Bits) (aim : Aim) → inverse_number (f d table bits aim) ≡ 0 → ⊥) → ⊥
  unfolding opened
  refuses-all-aims never = never (described_by three_slopes) (table_from three_slopes) (same_bits 8) (aim_at Red 2 0) (kept_of Red 2 0).number

  -- ---- the code

  -- a code of its own invention
  pub invents-a-code : (inverse_code (of Red 2 0) ≡ 3 → ⊥) → ⊥
  unfolding opened
  invents-a-code other = other (kept_of Red 2 0).code

  -- the highest of the codes that hit: 4 gives 2 as well as 3
  pub answers-the-highest-hit : inverse_code (of Red 2 0) ≡ 4 → ⊥
  unfolding opened
  answers-the-highest-hit e = let z : ◌≡◌ {A = ℕ} 3 4 = sym (kept_of Red 2 0).code ∙ e in omega arith

  -- and of those equally near without one: 0 and 2, of codes 0 and 1, lie one from 1
  pub answers-the-highest : inverse_code (of Blue 1 1) ≡ 1 → ⊥
  unfolding opened
  answers-the-highest e = let z : ◌≡◌ {A = ℕ} 0 1 = sym (kept_of Blue 1 1).code ∙ e in omega arith

  -- the first code that comes within the tolerance: 1, whose 1 lies one from 2
  pub answers-the-first-within : inverse_code (of Red 2 1) ≡ 1 → ⊥
  unfolding opened
  answers-the-first-within e = let z : ◌≡◌ {A = ℕ} 3 1 = sym (kept_of Red 2 1).code ∙ e in omega arith

  -- the nearest of those that are corrected to no more than the wanted code: from 8 to 10 bits codes 1 and 2 give 4 and 8, and 8 lies nearer to 7
  pub answers-from-below : inverse_code (found three_slopes (bits_of 8 10) Green 7 3) ≡ 1 → ⊥
  unfolding opened
  answers-from-below e = let z : ◌≡◌ {A = ℕ} 2 1 = sym (kept three_slopes (bits_of 8 10) Green 7 3).code ∙ e in omega arith

  -- the wanted code corrected once more, for the code that is corrected to it
  pub corrects-the-wanted : inverse_code (of Blue 4 0) ≡ 8 → ⊥
  unfolding opened
  corrects-the-wanted e = let z : ◌≡◌ {A = ℕ} 2 8 = sym (kept_of Blue 4 0).code ∙ e in omega arith

  -- a search that halves the range, as though the codes rose: it leaves the lower half, where 250 is hit at 5, for the upper, and ends at 255
  pub takes-the-table-to-rise : inverse_code (found falling (same_bits 8) Red 250 255) ≡ 255 → ⊥
  unfolding opened
  takes-the-table-to-rise e = let z : ◌≡◌ {A = ℕ} 5 255 = sym (kept falling (same_bits 8) Red 250 255).code ∙ e in omega arith

  -- a search from the greatest code down: it comes to 253 before 2, and both give 4
  pub searches-down : inverse_code (found peak (same_bits 8) Green 4 0) ≡ 253 → ⊥
  unfolding opened
  searches-down e = let z : ◌≡◌ {A = ℕ} 2 253 = sym (kept peak (same_bits 8) Green 4 0).code ∙ e in omega arith

  -- another colour than the asked one: green gives 2 for 2, and red for 3
  pub takes-another-colour : inverse_code (of Red 2 0) ≡ inverse_code (of Green 2 0) → ⊥
  unfolding opened
  takes-another-colour e = let z : ◌≡◌ {A = ℕ} 3 2 = sym (kept_of Red 2 0).code ∙ e ∙ (kept_of Green 2 0).code in omega arith

  -- the two depths exchanged: of 10 bits to 8 code 3 gives 1, of 8 to 10 none does
  pub exchanges-the-depths : inverse_number (found three_slopes (bits_of 10 8) Green 1 0) ≡ 28 → ⊥
  unfolding opened
  exchanges-the-depths e = let z : ◌≡◌ {A = ℕ} 0 28 = sym (kept three_slopes (bits_of 10 8) Green 1 0).number ∙ e in omega arith

  -- ---- the count

  -- the hit itself: codes 0 to 3 are four
  pub counts-from-0 : inverse_count (of Red 2 0) ≡ inverse_code (of Red 2 0) → ⊥
  unfolding opened
  counts-from-0 e = let z : ◌≡◌ {A = ℕ} 4 3 = sym (kept_of Red 2 0).count ∙ e ∙ (kept_of Red 2 0).code in omega arith

  -- without a hit too: codes 0 to 255 are 256
  pub counts-the-raw-m : inverse_count (of Blue 1 1) ≡ 255 → ⊥
  unfolding opened
  counts-the-raw-m e = let z : ◌≡◌ {A = ℕ} 256 255 = sym (kept_of Blue 1 1).count ∙ e in omega arith

  -- a search that goes on after the hit
  pub searches-on : inverse_count (of Red 2 0) ≡ 256 → ⊥
  unfolding opened
  searches-on e = let z : ◌≡◌ {A = ℕ} 4 256 = sym (kept_of Red 2 0).count ∙ e in omega arith

  -- one that ends at the nearest code, though nothing told that it was: without a hit all codes are tried
  pub ends-at-the-nearest : inverse_count (of Blue 1 1) ≡ 1 → ⊥
  unfolding opened
  ends-at-the-nearest e = let z : ◌≡◌ {A = ℕ} 256 1 = sym (kept_of Blue 1 1).count ∙ e in omega arith

  -- all codes of the corrected depth, where the raw one has 256
  pub counts-the-corrected-range : inverse_count (found three_slopes (bits_of 8 10) Green 6 2) ≡ 1024 → ⊥
  unfolding opened
  counts-the-corrected-range e = let z : ◌≡◌ {A = ℕ} 256 1024 = sym (kept three_slopes (bits_of 8 10) Green 6 2).count ∙ e in omega arith

  -- ---- the tolerance

  -- nearer than the tolerance, where as near is enough: no hit comes within 0 then
  pub asks-for-nearer : inverse_number (of Red 2 0) ≡ 28 → ⊥
  unfolding opened
  asks-for-nearer e = let z : ◌≡◌ {A = ℕ} 0 28 = sym (kept_of Red 2 0).number ∙ e in omega arith

  -- the nearest code, however far off: 128, the greatest in red, lies two from 130
  pub takes-any-distance : inverse_number (of Red 130 1) ≡ 0 → ⊥
  unfolding opened
  takes-any-distance e = let z : ◌≡◌ {A = ℕ} 28 0 = sym (kept_of Red 130 1).number ∙ e in omega arith

  -- 28 is known after 256 codes, and says so
  pub refuses-without-the-count : inverse_count (of Red 130 1) ≡ 0 → ⊥
  unfolding opened
  refuses-without-the-count e = let z : ◌≡◌ {A = ℕ} 256 0 = sym (kept_of Red 130 1).count ∙ e in omega arith

  -- 28 with the nearest code
  pub refuses-with-the-nearest : inverse_code (of Red 130 1) ≡ 255 → ⊥
  unfolding opened
  refuses-with-the-nearest e = let z : ◌≡◌ {A = ℕ} 0 255 = sym (kept_of Red 130 1).code ∙ e in omega arith

  -- ---- the checks before the search

  -- a wanted code is judged by the corrected M, 65,535: from 8 to 16 bits code 1 gives 257
  pub judges-by-the-raw-m : inverse_number (found three_slopes (bits_of 8 16) Green 257 0) ≡ 23 → ⊥
  unfolding opened
  judges-by-the-raw-m e = let z : ◌≡◌ {A = ℕ} 0 23 = sym (kept three_slopes (bits_of 8 16) Green 257 0).number ∙ e in omega arith

  -- a code above it is 23, whatever comes near
  pub takes-a-code-too-great : inverse_number (of Green 256 1) ≡ 0 → ⊥
  unfolding opened
  takes-a-code-too-great e = let z : ◌≡◌ {A = ℕ} 23 0 = sym (kept_of Green 256 1).number ∙ e in omega arith

  -- no code is too great for a depth that is unknown
  pub tries-the-code-before-depths : inverse_number (found three_slopes (bits_of 8 9) Green 65_535 0) ≡ 23 → ⊥
  unfolding opened
  tries-the-code-before-depths e = let z : ◌≡◌ {A = ℕ} 20 23 = sym (kept three_slopes (bits_of 8 9) Green 65_535 0).number ∙ e in omega arith

  -- what could not be read is 24 at any depth
  pub tries-depths-before-table : inverse_number (f one_row (table_from three_slopes) (same_bits 9) (aim_at Green 0 0)) ≡ 20 → ⊥
  unfolding opened
  tries-depths-before-table e = let z : ◌≡◌ {A = ℕ} 24 20 = sym (keeps one_row (table_from three_slopes) (same_bits 9) (aim_at Green 0 0)).number ∙ e in omega arith

  -- a 3D table, which may be read, is 24 too: no colour of it is corrected by itself
  pub takes-a-3d-table : inverse_number (found corner (same_bits 8) Green 0 0) ≡ 0 → ⊥
  unfolding opened
  takes-a-3d-table e = let z : ◌≡◌ {A = ℕ} 24 0 = sym (kept corner (same_bits 8) Green 0 0).number ∙ e in omega arith

  -- the refusals before the search have tried no code
  pub counts-before-the-search : inverse_count (of Green 256 0) ≡ 256 → ⊥
  unfolding opened
  counts-before-the-search e = let z : ◌≡◌ {A = ℕ} 0 256 = sym (kept_of Green 256 0).count ∙ e in omega arith
