-- The promises of `erythmoda_rows` and `erythmoda_codes` refute wrong calls (document 02, Req 09). A call is given its input and the lent memory as it was, and answers
-- a number and that memory as it is afterwards. What a wrong call does is said of any call at all; that it keeps the promise is then absurd, at an input that the
-- theorem holds.
use Prim.Native.Nat.{ℕ}
use mathlib.Core.Path.{◌≡◌, sym, ap, ◌∙◌}
use mathlib.Core.List.{List, [], ◌∷◌}
use native.Mathlib.Omega.{arith}
use lib.IntN.{ℤ, pos, negsuc}
use lib.ListN.{get_or, replicate}
use Rattle.rules.specs.Units.{bits_of}
use Rattle.rules.specs.Boundary.{described_in, FindsRowsC, GivesCodesC}
use Rattle.signature.proofs.Boundary.Halves.{rows-refused, codes-refused}
use Rattle.signature.specs.Cases.{untouched, table_from, corner, corner_rows, corner_weights, odd_title}
use Rattle.signature.proofs.Cases.{opened}

abbrev at : ℕ → List ℕ → ℕ
at k numbers = get_or numbers k 0

-- ---- the first half

-- the memory that it is lent
pub record RowsLent : Type 0 where
  pub rows : List ℕ
  pub weights : List ℤ

abbrev pub RowsCall : Type 0
RowsCall = List ℤ → List ℤ → ℕ → List ℕ → RowsLent → ℕ × RowsLent

abbrev pub FindsRowsCAll : RowsCall → Type 0
FindsRowsCAll call = (eleven table : List ℤ) (raw : ℕ) (pixel : List ℕ) (lent : RowsLent)
    → let after = call eleven table raw pixel lent in FindsRowsC eleven table raw pixel after.0 after.1.rows after.1.weights

abbrev pixel : List ℕ
pixel = 51 ∷ 102 ∷ 204 ∷ []

abbrev sevens : RowsLent
sevens = record { rows = replicate 6 77; weights = untouched 6 }

module _ (call : RowsCall) (keeps : FindsRowsCAll call) where
  -- of that file's table, with a kind's number and a raw depth
  abbrev found : ℕ → ℕ → List ℕ → ℕ × RowsLent
  found kind raw codes = call (odd_title kind) (table_from corner) raw codes sevens

  abbrev kept : (kind raw : ℕ) (codes : List ℕ) → let after = found kind raw codes in
      FindsRowsC (odd_title kind) (table_from corner) raw codes after.0 after.1.rows after.1.weights
  kept kind raw codes = keeps (odd_title kind) (table_from corner) raw codes sevens

  pub refuses-all-pixels : ((eleven table : List ℤ) (raw : ℕ) (pixel : List ℕ) (lent : RowsLent) → (call eleven table raw pixel lent).0 ≡ 0 → ⊥) → ⊥
  unfolding opened described_in
  refuses-all-pixels never = never (odd_title 3) (table_from corner) 8 pixel sevens (kept 3 8 pixel).number_so

  -- rows and weights of its own invention
  pub invents-rows : ((found 3 8 pixel).1.rows ≡ corner_rows → ⊥) → ⊥
  unfolding opened described_in
  invents-rows other = other (kept 3 8 pixel).rows_so

  pub invents-weights : ((found 3 8 pixel).1.weights ≡ corner_weights → ⊥) → ⊥
  unfolding opened described_in
  invents-weights other = other (kept 3 8 pixel).weights_so

  -- a pixel read blue first would have other codes' rows: 0, 1, 3, 7
  pub reads-blue-first : (found 3 8 pixel).1.rows ≡ 0 ∷ 1 ∷ 3 ∷ 7 ∷ 0 ∷ 0 ∷ [] → ⊥
  unfolding opened described_in
  reads-blue-first e = let z : ◌≡◌ {A = ℕ} 4 1 = ap (at 1) (sym (kept 3 8 pixel).rows_so ∙ e) in omega arith

  -- 2 names no kind
  pub takes-another-kind : (found 2 8 pixel).0 ≡ 0 → ⊥
  unfolding opened described_in
  takes-another-kind e = let z : ◌≡◌ {A = ℕ} 24 0 = sym (kept 2 8 pixel).number_so ∙ e in omega arith

  -- the title is not judged
  pub judges-the-title : ((found 3 8 pixel).0 ≡ 0 → ⊥) → ⊥
  unfolding opened described_in
  judges-the-title other = other (kept 3 8 pixel).number_so

  -- no code is too great for a depth that is unknown
  pub tries-codes-before-depth : (found 3 9 (replicate 3 65_535)).0 ≡ 23 → ⊥
  unfolding opened described_in
  tries-codes-before-depth e = let z : ◌≡◌ {A = ℕ} 20 23 = sym (kept 3 9 (replicate 3 65_535)).number_so ∙ e in omega arith

  code-refused : (found 3 8 (replicate 3 256)).0 ≡ 0 → ⊥
  unfolding opened described_in
  code-refused e = let z : ◌≡◌ {A = ℕ} 23 0 = sym (kept 3 8 (replicate 3 256)).number_so ∙ e in omega arith

  -- a refusal leaves the rows that stood there: here 77
  pub keeps-the-old-rows : ((eleven table : List ℤ) (raw : ℕ) (pixel : List ℕ) (lent : RowsLent)
      → ((call eleven table raw pixel lent).0 ≡ 0 → ⊥) → (call eleven table raw pixel lent).1.rows ≡ lent.rows) → ⊥
  keeps-the-old-rows same =
      let old = same (odd_title 3) (table_from corner) 8 (replicate 3 256) sevens code-refused in
      let z : ◌≡◌ {A = ℕ} 77 0 = ap (at 0) (sym old ∙ (rows-refused (kept 3 8 (replicate 3 256)) code-refused).0) in
      omega arith

-- ---- the second half

-- of rows and weights to the lent codes
abbrev pub CodesCall : Type 0
CodesCall = List ℤ → List ℤ → ℕ → ℕ → List ℕ → List ℤ → List ℕ → ℕ × List ℕ

abbrev pub GivesCodesCAll : CodesCall → Type 0
GivesCodesCAll call = (eleven table : List ℤ) (raw corrected : ℕ) (rows : List ℕ) (weights : List ℤ) (lent : List ℕ)
    → let after = call eleven table raw corrected rows weights lent in GivesCodesC eleven table (bits_of raw corrected) rows weights after.0 after.1

module _ (call : CodesCall) (keeps : GivesCodesCAll call) where
  -- of that file's table, with two depths
  abbrev given : ℕ → ℕ → List ℕ → List ℤ → ℕ × List ℕ
  given raw corrected rows weights = call (odd_title 3) (table_from corner) raw corrected rows weights (replicate 3 77)

  abbrev kept-given : (raw corrected : ℕ) (rows : List ℕ) (weights : List ℤ) → let after = given raw corrected rows weights in
      GivesCodesC (odd_title 3) (table_from corner) (bits_of raw corrected) rows weights after.0 after.1
  kept-given raw corrected rows weights = keeps (odd_title 3) (table_from corner) raw corrected rows weights (replicate 3 77)

  pub refuses-all-rows : ((eleven table : List ℤ) (raw corrected : ℕ) (rows : List ℕ) (weights : List ℤ) (lent : List ℕ)
      → (call eleven table raw corrected rows weights lent).0 ≡ 0 → ⊥) → ⊥
  unfolding opened described_in
  refuses-all-rows never = never (odd_title 3) (table_from corner) 8 8 corner_rows corner_weights (replicate 3 77) (kept-given 8 8 corner_rows corner_weights).number_so

  -- row 8 of rows 0 to 7, with weight 0
  pub takes-a-row-beyond : (given 8 8 (7 ∷ 8 ∷ 0 ∷ 0 ∷ 0 ∷ 0 ∷ []) (pos 255_000 ∷ replicate 5 (pos 0))).0 ≡ 0 → ⊥
  unfolding opened described_in
  takes-a-row-beyond e =
      let right = (kept-given 8 8 (7 ∷ 8 ∷ 0 ∷ 0 ∷ 0 ∷ 0 ∷ []) (pos 255_000 ∷ replicate 5 (pos 0))).number_so in
      let z : ◌≡◌ {A = ℕ} 26 0 = sym right ∙ e in
      omega arith

  -- a weight of -1 beside 255,001: the sum is right
  pub takes-a-negative-weight : (given 8 8 corner_rows (negsuc 0 ∷ pos 255_001 ∷ replicate 4 (pos 0))).0 ≡ 0 → ⊥
  unfolding opened described_in
  takes-a-negative-weight e =
      let right = (kept-given 8 8 corner_rows (negsuc 0 ∷ pos 255_001 ∷ replicate 4 (pos 0))).number_so in
      let z : ◌≡◌ {A = ℕ} 26 0 = sym right ∙ e in
      omega arith

  -- a sum one below D
  short-refused : (given 8 8 corner_rows (pos 254_999 ∷ replicate 5 (pos 0))).0 ≡ 0 → ⊥
  unfolding opened described_in
  short-refused e = let z : ◌≡◌ {A = ℕ} 26 0 = sym (kept-given 8 8 corner_rows (pos 254_999 ∷ replicate 5 (pos 0))).number_so ∙ e in omega arith

  -- a call that divides by whatever the weights add up to refuses no sum
  pub takes-any-sum : ((rows : List ℕ) (weights : List ℤ) → (given 8 8 rows weights).0 ≡ 0) → ⊥
  takes-any-sum always = short-refused (always corner_rows (pos 254_999 ∷ replicate 5 (pos 0)))

  -- of 3D the last two places are not judged
  pub judges-unused-places : ((given 8 8 (7 ∷ 0 ∷ 0 ∷ 0 ∷ 8 ∷ 0 ∷ []) (pos 255_000 ∷ pos 0 ∷ pos 0 ∷ pos 0 ∷ pos 0 ∷ negsuc 0 ∷ [])).0 ≡ 0 → ⊥) → ⊥
  unfolding opened described_in
  judges-unused-places other = other (kept-given 8 8 (7 ∷ 0 ∷ 0 ∷ 0 ∷ 8 ∷ 0 ∷ []) (pos 255_000 ∷ pos 0 ∷ pos 0 ∷ pos 0 ∷ pos 0 ∷ negsuc 0 ∷ [])).number_so

  -- the raw and the corrected depth exchanged: the weights add up to the D of the raw one, 8 bits
  pub exchanges-the-depths : (given 8 16 corner_rows corner_weights).0 ≡ 26 → ⊥
  unfolding opened described_in
  exchanges-the-depths e = let z : ◌≡◌ {A = ℕ} 0 26 = sym (kept-given 8 16 corner_rows corner_weights).number_so ∙ e in omega arith

  -- codes of the raw depth: 51, and of 16 bits 13,107
  pub gives-raw-codes : at 0 (given 8 16 corner_rows corner_weights).1 ≡ 51 → ⊥
  unfolding opened described_in
  gives-raw-codes e = let z : ◌≡◌ {A = ℕ} 13_107 51 = sym (ap (at 0) (kept-given 8 16 corner_rows corner_weights).codes_so) ∙ e in omega arith

  -- a refusal leaves the codes that stood there: here 77
  pub keeps-the-old-codes : ((eleven table : List ℤ) (raw corrected : ℕ) (rows : List ℕ) (weights : List ℤ) (lent : List ℕ)
      → ((call eleven table raw corrected rows weights lent).0 ≡ 0 → ⊥) → (call eleven table raw corrected rows weights lent).1 ≡ lent) → ⊥
  keeps-the-old-codes same =
      let weights = pos 254_999 ∷ replicate 5 (pos 0) in
      let old = same (odd_title 3) (table_from corner) 8 8 corner_rows weights (replicate 3 77) short-refused in
      let z : ◌≡◌ {A = ℕ} 77 0 = ap (at 0) (sym old ∙ codes-refused (kept-given 8 8 corner_rows weights) short-refused) in
      omega arith
