-- The promise of `erythmoda_picture` refutes wrong calls: document 01's wrong programs, those that two depths and domains that differ invite (document 02, Req
-- 06 and 07), and those that only a boundary can have. A call is given its input and the lent memory as it was, and answers a number and that memory as it is
-- afterwards. What a wrong call does is said of any call at all; that it keeps the promise is then absurd, at an input that the theorem holds.
use Prim.Native.Nat.{ℕ}
use mathlib.Core.Path.{◌≡◌, sym, ap, ◌∙◌}
use mathlib.Core.List.{List, [], ◌∷◌}
use native.Mathlib.Omega.{arith}
use lib.IntN.{ℤ}
use lib.ListN.{get_or, replicate}
use Rattle.rules.specs.Units.{bits_of}
use Rattle.rules.specs.Answers.{codes_of}
use Rattle.rules.specs.Boundary.{eleven_of, described_in, output_in, PicturesC}
use Rattle.rules.specs.declared.Description.{Description}
use Rattle.signature.specs.Cases.{described_by, table_from, corner, odd_title}
use Rattle.signature.specs.OneDomain.{red_wider, green_first, cube_to}
use Rattle.signature.proofs.Cases.{opened}

abbrev at : ℕ → List ℕ → ℕ
at k codes = get_or codes k 0

abbrev pub PictureCall : Type 0
PictureCall = List ℤ → List ℤ → ℕ → ℕ → List ℕ → List ℕ → ℕ × List ℕ

abbrev pub PicturesCAll : PictureCall → Type 0
PicturesCAll call = (eleven table : List ℤ) (raw corrected : ℕ) (src dst : List ℕ)
    → PicturesC eleven table (bits_of raw corrected) src dst (call eleven table raw corrected src dst).0 (call eleven table raw corrected src dst).1

-- two pixels, whose codes are three times 51 and three times 102
abbrev src : List ℕ
src = 51 ∷ 102 ∷ 204 ∷ 102 ∷ 204 ∷ 255 ∷ []

abbrev dst : List ℕ
dst = replicate 6 77

module _ (call : PictureCall) (keeps : PicturesCAll call) where
  abbrev painted : ℕ → ℕ × List ℕ
  painted kind = call (odd_title kind) (table_from corner) 8 8 src dst

  whole-output : (painted 3).1 ≡ 51 ∷ 51 ∷ 51 ∷ 102 ∷ 102 ∷ 102 ∷ []
  unfolding opened described_in
  whole-output = (keeps (odd_title 3) (table_from corner) 8 8 src dst).memory

  pub refuses-all-pictures : ((eleven table : List ℤ) (raw corrected : ℕ) (src dst : List ℕ) → (call eleven table raw corrected src dst).0 ≡ 0 → ⊥) → ⊥
  unfolding opened described_in
  refuses-all-pictures never = never (odd_title 3) (table_from corner) 8 8 src dst (keeps (odd_title 3) (table_from corner) 8 8 src dst).number_so

  -- one code for every pixel
  pub one-code-for-every-pixel : at 0 (painted 3).1 ≡ at 3 (painted 3).1 → ⊥
  one-code-for-every-pixel e = let z : ◌≡◌ {A = ℕ} 51 102 = sym (ap (at 0) whole-output) ∙ e ∙ ap (at 3) whole-output in omega arith

  -- the first pixel corrected and the rest copied: the second pixel's green code is 204 in the picture
  pub copies-the-rest : at 4 (painted 3).1 ≡ at 4 src → ⊥
  copies-the-rest e = let z : ◌≡◌ {A = ℕ} 102 204 = sym (ap (at 4) whole-output) ∙ e in omega arith

  -- and all copied
  pub copies-the-picture : at 1 (painted 3).1 ≡ at 1 src → ⊥
  copies-the-picture e = let z : ◌≡◌ {A = ℕ} 51 102 = sym (ap (at 1) whole-output) ∙ e in omega arith

  -- 24 writes nothing
  pub writes-on-a-refusal : ((painted 2).1 ≡ dst → ⊥) → ⊥
  unfolding opened described_in
  writes-on-a-refusal other = other (keeps (odd_title 2) (table_from corner) 8 8 src dst).memory

  -- ---- two depths

  abbrev between : ℕ → ℕ → List ℕ → ℕ × List ℕ
  between raw corrected codes = call (odd_title 3) (table_from corner) raw corrected codes dst

  abbrev kept-between : (raw corrected : ℕ) (codes : List ℕ)
      → PicturesC (odd_title 3) (table_from corner) (bits_of raw corrected) codes dst (between raw corrected codes).0 (between raw corrected codes).1
  kept-between raw corrected codes = keeps (odd_title 3) (table_from corner) raw corrected codes dst

  -- the values are 0.2 and 0.4
  wide-output : (between 8 16 src).1 ≡ 13_107 ∷ 13_107 ∷ 13_107 ∷ 26_214 ∷ 26_214 ∷ 26_214 ∷ []
  unfolding opened described_in
  wide-output = (kept-between 8 16 src).memory

  -- the raw and the corrected depth exchanged: code 51 of 16 bits has code 0 of 8 bits
  pub exchanges-the-depths : (between 8 16 src).1 ≡ output_in (odd_title 3) (table_from corner) (bits_of 16 8) src dst → ⊥
  unfolding opened described_in
  exchanges-the-depths e = let z : ◌≡◌ {A = ℕ} 13_107 0 = sym (ap (at 0) wide-output) ∙ ap (at 0) e in omega arith

  -- codes of the raw depth: 51 and 102
  pub gives-raw-codes : (between 8 16 src).1 ≡ output_in (odd_title 3) (table_from corner) (bits_of 8 8) src dst → ⊥
  unfolding opened described_in
  gives-raw-codes e = let z : ◌≡◌ {A = ℕ} 13_107 51 = sym (ap (at 0) wide-output) ∙ ap (at 0) e in omega arith

  -- a code above the raw M is 23 only where both depths are known
  pub tries-codes-before-depths : (between 8 9 (replicate 3 256)).0 ≡ 23 → ⊥
  unfolding opened described_in
  tries-codes-before-depths e = let z : ◌≡◌ {A = ℕ} 20 23 = sym (kept-between 8 9 (replicate 3 256)).number_so ∙ e in omega arith

  -- a code above the raw M is 23, whatever the corrected M
  pub judges-by-the-corrected-m : (between 8 16 (replicate 3 256)).0 ≡ 0 → ⊥
  unfolding opened described_in
  judges-by-the-corrected-m e = let z : ◌≡◌ {A = ℕ} 23 0 = sym (kept-between 8 16 (replicate 3 256)).number_so ∙ e in omega arith

  -- ---- domains that differ: one pixel, of a table with red from 0 to 2 and the others from 0 to 1

  abbrev painted-in : Description → ℕ × List ℕ
  painted-in d = call (eleven_of d) (table_from red_wider) 8 8 (codes_of green_first) dst

  abbrev kept_in : (d : Description)
      → PicturesC (eleven_of d) (table_from red_wider) (bits_of 8 8) (codes_of green_first) dst (painted-in d).0 (painted-in d).1
  kept_in d = keeps (eleven_of d) (table_from red_wider) 8 8 (codes_of green_first) dst

  -- by their own numerators red would stand before green: 51 in place of 102
  pub orders-by-own-numerators : at 0 (painted-in (described_by red_wider)).1 ≡ 51 → ⊥
  unfolding opened described_in
  orders-by-own-numerators e = let z : ◌≡◌ {A = ℕ} 102 51 = sym (ap (at 0) (kept_in (described_by red_wider)).memory) ∙ e in omega arith

  pub refuses-mixed-domains : (painted-in (described_by red_wider)).0 ≡ 24 → ⊥
  unfolding opened described_in
  refuses-mixed-domains e = let z : ◌≡◌ {A = ℕ} 0 24 = sym (kept_in (described_by red_wider)).number_so ∙ e in omega arith

  -- blue from 0 to 1.5, beside 0 to 2 and 0 to 1
  pub takes-an-uneven-bound : (painted-in (cube_to 2000 1000 1500)).0 ≡ 0 → ⊥
  unfolding opened described_in
  takes-an-uneven-bound e = let z : ◌≡◌ {A = ℕ} 24 0 = sym (kept_in (cube_to 2000 1000 1500)).number_so ∙ e in omega arith
