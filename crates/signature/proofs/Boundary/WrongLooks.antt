-- The promise of `erythmoda_look` refutes wrong calls: document 01's wrong programs, those that two depths and domains that differ invite (document 02, Req 06
-- and 07), and those that only a boundary can have. A call is given its input and the lent memory as it was, and answers a number and that memory as it is
-- afterwards. What a wrong call does is said of any call at all; that it keeps the promise is then absurd, at an input that the theorem holds.
use Prim.Native.Nat.{ℕ}
use mathlib.Core.Path.{◌≡◌, sym, ap, ◌∙◌}
use mathlib.Core.List.{List, [], ◌∷◌}
use native.Mathlib.Omega.{arith}
use lib.IntN.{ℤ, pos}
use lib.ListN.{get_or, replicate}
use Rattle.rules.specs.Units.{bits_of}
use Rattle.rules.specs.Answers.{codes_of, look_codes}
use Rattle.rules.specs.Boundary.{eleven_of, described_in, pixel_in, look_in, LooksC}
use Rattle.rules.specs.declared.Description.{Description}
use Rattle.signature.proofs.Boundary.Looks.{look-refused}
use Rattle.signature.specs.Cases.{untouched, described_by, table_from, corner, odd_title}
use Rattle.signature.specs.OneDomain.{red_wider, green_first, cube_to}
use Rattle.signature.proofs.Cases.{opened}

abbrev at : ℕ → List ℕ → ℕ
at k codes = get_or codes k 0

-- the memory that look is lent
pub record LookLent : Type 0 where
  pub codes : List ℕ
  pub rows : List ℕ
  pub weights : List ℤ

abbrev pub LookCall : Type 0
LookCall = List ℤ → List ℤ → ℕ → ℕ → List ℕ → LookLent → ℕ × LookLent

abbrev pub LooksCAll : LookCall → Type 0
LooksCAll call = (eleven table : List ℤ) (raw corrected : ℕ) (pixel : List ℕ) (lent : LookLent)
    → let after = call eleven table raw corrected pixel lent in LooksC eleven table (bits_of raw corrected) pixel after.0 after.1.codes after.1.rows after.1.weights

abbrev pixel : List ℕ
pixel = 51 ∷ 102 ∷ 204 ∷ []

abbrev sevens : LookLent
sevens = record { codes = replicate 3 77; rows = replicate 6 77; weights = untouched 6 }

module _ (call : LookCall) (keeps : LooksCAll call) where
  -- of that file's table, with a kind's number and two depths
  abbrev seen : ℕ → ℕ → ℕ → List ℕ → ℕ × LookLent
  seen kind raw corrected codes = call (odd_title kind) (table_from corner) raw corrected codes sevens

  abbrev kept : (kind raw corrected : ℕ) (codes : List ℕ) → let after = seen kind raw corrected codes in
      LooksC (odd_title kind) (table_from corner) (bits_of raw corrected) codes after.0 after.1.codes after.1.rows after.1.weights
  kept kind raw corrected codes = keeps (odd_title kind) (table_from corner) raw corrected codes sevens

  pub refuses-all-pixels : ((eleven table : List ℤ) (raw corrected : ℕ) (pixel : List ℕ) (lent : LookLent) → (call eleven table raw corrected pixel lent).0 ≡ 0 → ⊥) → ⊥
  unfolding opened described_in
  refuses-all-pixels never = never (odd_title 3) (table_from corner) 8 8 pixel sevens (kept 3 8 8 pixel).number_so

  -- here the code of one pixel is 51, and black is 0
  pub one-code-for-all : ((eleven table : List ℤ) (raw corrected : ℕ) (a b : List ℕ) (lent : LookLent)
      → (call eleven table raw corrected a lent).1.codes ≡ (call eleven table raw corrected b lent).1.codes) → ⊥
  unfolding opened described_in
  one-code-for-all same =
      let black : List ℕ = replicate 3 0 in
      let z : ◌≡◌ {A = ℕ} 51 0 = ap (at 0) (sym (kept 3 8 8 pixel).codes_so ∙ same (odd_title 3) (table_from corner) 8 8 pixel black sevens ∙ (kept 3 8 8 black).codes_so) in
      omega arith

  -- rows and weights of its own invention
  pub invents-rows : ((seen 3 8 8 pixel).1.rows ≡ 0 ∷ 4 ∷ 6 ∷ 7 ∷ 0 ∷ 0 ∷ [] → ⊥) → ⊥
  unfolding opened described_in
  invents-rows other = other (kept 3 8 8 pixel).rows_so

  pub invents-weights : ((seen 3 8 8 pixel).1.weights ≡ pos 51_000 ∷ pos 102_000 ∷ pos 51_000 ∷ pos 51_000 ∷ pos 0 ∷ pos 0 ∷ [] → ⊥) → ⊥
  unfolding opened described_in
  invents-weights other = other (kept 3 8 8 pixel).weights_so

  -- a pixel read blue first would have other codes' rows: 0, 1, 3, 7
  pub reads-blue-first : (seen 3 8 8 pixel).1.rows ≡ 0 ∷ 1 ∷ 3 ∷ 7 ∷ 0 ∷ 0 ∷ [] → ⊥
  unfolding opened described_in
  reads-blue-first e = let z : ◌≡◌ {A = ℕ} 4 1 = ap (at 1) (sym (kept 3 8 8 pixel).rows_so ∙ e) in omega arith

  -- 2 names no kind
  pub takes-another-kind : (seen 2 8 8 pixel).0 ≡ 0 → ⊥
  unfolding opened described_in
  takes-another-kind e = let z : ◌≡◌ {A = ℕ} 24 0 = sym (kept 2 8 8 pixel).number_so ∙ e in omega arith

  -- the title is not judged
  pub judges-the-title : ((seen 3 8 8 pixel).0 ≡ 0 → ⊥) → ⊥
  unfolding opened described_in
  judges-the-title other = other (kept 3 8 8 pixel).number_so

  depth-refused : (seen 3 9 9 pixel).0 ≡ 0 → ⊥
  unfolding opened described_in
  depth-refused e = let z : ◌≡◌ {A = ℕ} 20 0 = sym (kept 3 9 9 pixel).number_so ∙ e in omega arith

  -- a refusal leaves the codes that stood there: here 77
  pub keeps-the-old-codes : ((eleven table : List ℤ) (raw corrected : ℕ) (pixel : List ℕ) (lent : LookLent)
      → ((call eleven table raw corrected pixel lent).0 ≡ 0 → ⊥) → (call eleven table raw corrected pixel lent).1.codes ≡ lent.codes) → ⊥
  keeps-the-old-codes same =
      let old = same (odd_title 3) (table_from corner) 9 9 pixel sevens depth-refused in
      let z : ◌≡◌ {A = ℕ} 77 0 = ap (at 0) (sym old ∙ (look-refused (kept 3 9 9 pixel) depth-refused).0) in
      omega arith

  -- ---- two depths

  -- the value is 0.2
  fifth : at 0 (seen 3 8 16 pixel).1.codes ≡ 13_107
  unfolding opened described_in
  fifth = ap (at 0) (kept 3 8 16 pixel).codes_so

  -- the raw and the corrected depth exchanged: code 51 of 16 bits has code 0 of 8 bits
  pub exchanges-the-depths : (seen 3 8 16 pixel).1.codes ≡ look_codes (look_in (odd_title 3) (table_from corner) (bits_of 16 8) (pixel_in pixel)) → ⊥
  unfolding opened described_in
  exchanges-the-depths e = let z : ◌≡◌ {A = ℕ} 13_107 0 = sym fifth ∙ ap (at 0) e in omega arith

  -- codes of the raw depth: 51
  pub gives-raw-codes : (seen 3 8 16 pixel).1.codes ≡ look_codes (look_in (odd_title 3) (table_from corner) (bits_of 8 8) (pixel_in pixel)) → ⊥
  unfolding opened described_in
  gives-raw-codes e = let z : ◌≡◌ {A = ℕ} 13_107 51 = sym fifth ∙ ap (at 0) e in omega arith

  -- a code above the raw M is 23 only where both depths are known
  pub tries-codes-before-depths : (seen 3 8 9 (replicate 3 256)).0 ≡ 23 → ⊥
  unfolding opened described_in
  tries-codes-before-depths e = let z : ◌≡◌ {A = ℕ} 20 23 = sym (kept 3 8 9 (replicate 3 256)).number_so ∙ e in omega arith

  -- a code above the raw M is 23, whatever the corrected M
  pub judges-by-the-corrected-m : (seen 3 8 16 (replicate 3 256)).0 ≡ 0 → ⊥
  unfolding opened described_in
  judges-by-the-corrected-m e = let z : ◌≡◌ {A = ℕ} 23 0 = sym (kept 3 8 16 (replicate 3 256)).number_so ∙ e in omega arith

  -- ---- domains that differ: of a table with red from 0 to 2 and the others from 0 to 1

  abbrev seen-in : Description → ℕ × LookLent
  seen-in d = call (eleven_of d) (table_from red_wider) 8 8 (codes_of green_first) sevens

  abbrev kept_in : (d : Description) → let after = seen-in d in
      LooksC (eleven_of d) (table_from red_wider) (bits_of 8 8) (codes_of green_first) after.0 after.1.codes after.1.rows after.1.weights
  kept_in d = keeps (eleven_of d) (table_from red_wider) 8 8 (codes_of green_first) sevens

  -- by their own numerators red would stand before green: rows 0, 1, 3, 7 in place of 0, 2, 3, 7
  pub orders-by-own-numerators : (seen-in (described_by red_wider)).1.rows ≡ 0 ∷ 1 ∷ 3 ∷ 7 ∷ 0 ∷ 0 ∷ [] → ⊥
  unfolding opened described_in
  orders-by-own-numerators e = let z : ◌≡◌ {A = ℕ} 2 1 = ap (at 1) (sym (kept_in (described_by red_wider)).rows_so ∙ e) in omega arith

  pub refuses-mixed-domains : (seen-in (described_by red_wider)).0 ≡ 24 → ⊥
  unfolding opened described_in
  refuses-mixed-domains e = let z : ◌≡◌ {A = ℕ} 0 24 = sym (kept_in (described_by red_wider)).number_so ∙ e in omega arith

  -- blue from 0 to 1.5, beside 0 to 2 and 0 to 1
  pub takes-an-uneven-bound : (seen-in (cube_to 2000 1000 1500)).0 ≡ 0 → ⊥
  unfolding opened described_in
  takes-an-uneven-bound e = let z : ◌≡◌ {A = ℕ} 24 0 = sym (kept_in (cube_to 2000 1000 1500)).number_so ∙ e in omega arith
