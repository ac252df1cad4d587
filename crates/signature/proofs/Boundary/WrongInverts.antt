-- The promise of `erythmoda_inverse` refutes wrong calls (document 02, Req 04). A call is given its input and the lent memory as it was, and answers a number and that
-- memory as it is afterwards. What a wrong call does is said of any call at all; that it keeps the promise is then absurd, at an input that the theorem holds.
use Prim.Native.Nat.{ℕ}
use mathlib.Core.Path.{◌≡◌, sym, ◌∙◌}
use mathlib.Core.List.{List}
use native.Mathlib.Omega.{arith}
use lib.IntN.{ℤ}
use Rattle.rules.specs.Units.{bits_of}
use Rattle.rules.specs.Boundary.{described_in, InvertsC}
use Rattle.signature.proofs.Boundary.Inverts.{inverse-refused}
use Rattle.signature.specs.Cases.{table_from, corner, three_slopes, odd_title}
use Rattle.signature.proofs.Cases.{opened}

-- the memory that it is lent
pub record InverseLent : Type 0 where
  pub code : ℕ
  pub count : ℕ

-- what it is asked: a colour's number, a wanted code and a tolerance
pub record Asked : Type 0 where
  pub colour : ℕ
  pub wanted : ℕ
  pub tolerance : ℕ

-- with the raw and the corrected depth before that
abbrev pub InverseCall : Type 0
InverseCall = List ℤ → List ℤ → ℕ → ℕ → Asked → InverseLent → ℕ × InverseLent

abbrev pub InvertsCAll : InverseCall → Type 0
InvertsCAll call = (eleven table : List ℤ) (raw corrected : ℕ) (asked : Asked) (lent : InverseLent)
    → let after = call eleven table raw corrected asked lent in
    InvertsC eleven table (bits_of raw corrected) asked.colour asked.wanted asked.tolerance after.0 after.1.code after.1.count

abbrev asking : ℕ → ℕ → ℕ → Asked
asking colour wanted tolerance = record { colour = colour; wanted = wanted; tolerance = tolerance }

abbrev sevens : InverseLent
sevens = record { code = 77; count = 77 }

module _ (call : InverseCall) (keeps : InvertsCAll call) where
  -- of the table by which a raw code gives half of it in red, itself in green and twice it in blue, and 2 is hit at 3, 2 and 1
  abbrev found : Asked → ℕ × InverseLent
  found asked = call (odd_title 1) (table_from three_slopes) 8 8 asked sevens

  abbrev kept : (asked : Asked) → let after = found asked in
      InvertsC (odd_title 1) (table_from three_slopes) (bits_of 8 8) asked.colour asked.wanted asked.tolerance after.0 after.1.code after.1.count
  kept asked = keeps (odd_title 1) (table_from three_slopes) 8 8 asked sevens

  pub refuses-all-aims : ((eleven table : List ℤ) (raw corrected : ℕ) (asked : Asked) (lent : InverseLent) → (call eleven table raw corrected asked lent).0 ≡ 0 → ⊥) → ⊥
  unfolding opened described_in
  refuses-all-aims never = never (odd_title 1) (table_from three_slopes) 8 8 (asking 0 2 0) sevens (kept (asking 0 2 0)).number_so

  -- ---- the colour

  -- 3 is no colour
  beyond-refused : (found (asking 3 2 0)).0 ≡ 0 → ⊥
  unfolding opened described_in
  beyond-refused e = let z : ◌≡◌ {A = ℕ} 24 0 = sym (kept (asking 3 2 0)).number_so ∙ e in omega arith

  -- a call that has blue for whatever is neither red nor green refuses none
  pub takes-any-colour : ((colour : ℕ) → (found (asking colour 2 0)).0 ≡ 0) → ⊥
  takes-any-colour always = beyond-refused (always 3)

  -- colours counted from 1: 1 is green, and 0, red, would be none
  pub counts-colours-from-1 : (found (asking 1 2 0)).1.code ≡ 3 → ⊥
  unfolding opened described_in
  counts-colours-from-1 e = let z : ◌≡◌ {A = ℕ} 2 3 = sym (kept (asking 1 2 0)).code_so ∙ e in omega arith

  pub takes-0-for-none : (found (asking 0 2 0)).0 ≡ 24 → ⊥
  unfolding opened described_in
  takes-0-for-none e = let z : ◌≡◌ {A = ℕ} 0 24 = sym (kept (asking 0 2 0)).number_so ∙ e in omega arith

  -- blue first: 0 is red
  pub counts-blue-first : (found (asking 0 2 0)).1.code ≡ 1 → ⊥
  unfolding opened described_in
  counts-blue-first e = let z : ◌≡◌ {A = ℕ} 3 1 = sym (kept (asking 0 2 0)).code_so ∙ e in omega arith

  -- ---- the wanted code and the tolerance

  -- one for the other: code 0 gives 0, where 2 was wanted
  pub exchanges-the-last-two : (found (asking 0 2 0)).1.code ≡ 0 → ⊥
  unfolding opened described_in
  exchanges-the-last-two e = let z : ◌≡◌ {A = ℕ} 3 0 = sym (kept (asking 0 2 0)).code_so ∙ e in omega arith

  -- a tolerance cut to 16 bits: of 65,536 nothing would be left, and nothing hits 1 in blue
  pub cuts-the-tolerance : (found (asking 2 1 65_536)).0 ≡ 28 → ⊥
  unfolding opened described_in
  cuts-the-tolerance e = let z : ◌≡◌ {A = ℕ} 0 28 = sym (kept (asking 2 1 65_536)).number_so ∙ e in omega arith

  -- a count cut to 8 bits: of 256 nothing would be left
  pub cuts-the-count : (found (asking 2 1 1)).1.count ≡ 0 → ⊥
  unfolding opened described_in
  cuts-the-count e = let z : ◌≡◌ {A = ℕ} 256 0 = sym (kept (asking 2 1 1)).count_so ∙ e in omega arith

  -- ---- the description and the depths

  -- 2 names no kind
  pub takes-another-kind : (call (odd_title 2) (table_from three_slopes) 8 8 (asking 0 2 0) sevens).0 ≡ 0 → ⊥
  unfolding opened described_in
  takes-another-kind e = let z : ◌≡◌ {A = ℕ} 24 0 = sym (keeps (odd_title 2) (table_from three_slopes) 8 8 (asking 0 2 0) sevens).number_so ∙ e in omega arith

  -- 3D is a kind, and has no inverse
  pub takes-a-3d-table : (call (odd_title 3) (table_from corner) 8 8 (asking 0 0 0) sevens).0 ≡ 0 → ⊥
  unfolding opened described_in
  takes-a-3d-table e = let z : ◌≡◌ {A = ℕ} 24 0 = sym (keeps (odd_title 3) (table_from corner) 8 8 (asking 0 0 0) sevens).number_so ∙ e in omega arith

  -- the title is not judged
  pub judges-the-title : ((found (asking 0 2 0)).0 ≡ 0 → ⊥) → ⊥
  unfolding opened described_in
  judges-the-title other = other (kept (asking 0 2 0)).number_so

  -- the raw and the corrected depth exchanged: of 10 bits to 8 code 3 gives 1 in green, of 8 to 10 none does
  pub exchanges-the-depths : (call (odd_title 1) (table_from three_slopes) 10 8 (asking 1 1 0) sevens).0 ≡ 28 → ⊥
  unfolding opened described_in
  exchanges-the-depths e = let z : ◌≡◌ {A = ℕ} 0 28 = sym (keeps (odd_title 1) (table_from three_slopes) 10 8 (asking 1 1 0) sevens).number_so ∙ e in omega arith

  -- ---- what a refusal writes

  beyond-not-28 : (found (asking 3 2 0)).0 ≡ 28 → ⊥
  unfolding opened described_in
  beyond-not-28 e = let z : ◌≡◌ {A = ℕ} 24 28 = sym (kept (asking 3 2 0)).number_so ∙ e in omega arith

  -- a refusal leaves the code that stood there, or the count: here 77
  pub keeps-the-old-code : ((eleven table : List ℤ) (raw corrected : ℕ) (asked : Asked) (lent : InverseLent)
      → ((call eleven table raw corrected asked lent).0 ≡ 0 → ⊥) → (call eleven table raw corrected asked lent).1.code ≡ lent.code) → ⊥
  keeps-the-old-code same =
      let old = same (odd_title 1) (table_from three_slopes) 8 8 (asking 3 2 0) sevens beyond-refused in
      let z : ◌≡◌ {A = ℕ} 77 0 = sym old ∙ (inverse-refused (kept (asking 3 2 0)) beyond-refused).0 in
      omega arith

  pub keeps-the-old-count : ((eleven table : List ℤ) (raw corrected : ℕ) (asked : Asked) (lent : InverseLent)
      → ((call eleven table raw corrected asked lent).0 ≡ 0 → ⊥) → (call eleven table raw corrected asked lent).1.count ≡ lent.count) → ⊥
  keeps-the-old-count same =
      let old = same (odd_title 1) (table_from three_slopes) 8 8 (asking 3 2 0) sevens beyond-refused in
      let z : ◌≡◌ {A = ℕ} 77 0 = sym old ∙ (inverse-refused (kept (asking 3 2 0)) beyond-refused).1 beyond-not-28 in
      omega arith

  -- 28 too writes code 0, and not the nearest: in red 128, of code 255, lies two from 130
  pub writes-the-nearest : (found (asking 0 130 1)).1.code ≡ 255 → ⊥
  unfolding opened described_in
  writes-the-nearest e = let z : ◌≡◌ {A = ℕ} 0 255 = sym (kept (asking 0 130 1)).code_so ∙ e in omega arith

  -- but its count is that of all codes
  pub writes-no-count : (found (asking 0 130 1)).1.count ≡ 0 → ⊥
  unfolding opened described_in
  writes-no-count e = let z : ◌≡◌ {A = ℕ} 256 0 = sym (kept (asking 0 130 1)).count_so ∙ e in omega arith
