-- The promises of the two halves of a look (document 02, Req 09) refute wrong programs. What such a program does is said of any program at all; that it keeps the
-- promise is then absurd, at an input that the theorem holds.
use Prim.Native.Nat.{ℕ}
use Prim.Native.String.{String}
use mathlib.Core.Path.{◌≡◌, sym, ap, ◌∙◌}
use mathlib.Core.List.{List, [], ◌∷◌}
use native.Mathlib.Omega.{arith}
use lib.IntN.{ℤ, pos, negsuc, nat_abs}
use lib.ListN.{get_or, replicate}
use Rattle.rules.specs.Units.{bits_of, same_bits}
use Rattle.rules.specs.Looking.{first_half, second_half}
use Rattle.rules.specs.Answers.{first_number, first_rows, first_weights, second_number, second_codes}
use Rattle.rules.specs.Boundary.{shares_in}
use Rattle.rules.specs.Promises.{FindsRows, GivesCodes}
use Rattle.rules.specs.declared.Bits.{Bits}
use Rattle.rules.specs.declared.Codes.{Codes}
use Rattle.rules.specs.declared.Description.{Description}
use Rattle.rules.specs.declared.Shares.{Shares}
use Rattle.signature.specs.Cases.{described_by, table_from, grey, one_row, zero_and_half, corner, corner_pixel, corner_rows, corner_weights, thrice}
use Rattle.signature.proofs.Cases.{opened}
use Rattle.rules.specs.Results.{FirstHalf, SecondHalf}

abbrev first : List ℕ → ℕ
first xs = get_or xs 0 0

abbrev second : List ℕ → ℕ
second xs = get_or xs 1 0

abbrev first_weight : List ℤ → ℕ
first_weight ws = nat_abs (get_or ws 0 (pos 0))

-- ---- the first half

abbrev pub Finder : Type 0
Finder = Description → List ℤ → ℕ → Codes → FirstHalf

abbrev pub FindsAll : Finder → Type 0
FindsAll f = (d : Description) (table : List ℤ) (raw : ℕ) (pixel : Codes) → FindsRows d table raw pixel (f d table raw pixel)

module _ (f : Finder) (keeps : FindsAll f) where
  -- its answer, and the right one, of a file's table
  abbrev found : String → ℕ → Codes → FirstHalf
  found file raw pixel = f (described_by file) (table_from file) raw pixel

  abbrev right : String → ℕ → Codes → FirstHalf
  right file raw pixel = first_half (described_by file) (table_from file) raw pixel

  abbrev kept : (file : String) (raw : ℕ) (pixel : Codes) → FindsRows (described_by file) (table_from file) raw pixel (found file raw pixel)
  kept file raw pixel = keeps (described_by file) (table_from file) raw pixel

  pub refuses-all-pixels : ((d : Description) (table : List ℤ) (raw : ℕ) (pixel : Codes) → first_number (f d table raw pixel) ≡ 0 → ⊥) → ⊥
  unfolding opened
  refuses-all-pixels never = never (described_by corner) (table_from corner) 8 corner_pixel (kept corner 8 corner_pixel).number

  -- rows and weights of its own invention
  pub invents-rows : (first_rows (found corner 8 corner_pixel) ≡ corner_rows → ⊥) → ⊥
  unfolding opened
  invents-rows other = other (kept corner 8 corner_pixel).rows

  pub invents-weights : (first_weights (found corner 8 corner_pixel) ≡ corner_weights → ⊥) → ⊥
  unfolding opened
  invents-weights other = other (kept corner 8 corner_pixel).weights

  -- the two weights of a colour exchanged: code 51 of 255 stands nearer to row 0, which has 204,000 of 255,000
  pub exchanges-the-weights : first_weights (found zero_and_half 8 (grey 51)) ≡ thrice (pos 51_000) (pos 204_000) → ⊥
  unfolding opened
  exchanges-the-weights e = let z : ◌≡◌ {A = ℕ} 204_000 51_000 = ap first_weight (sym (kept zero_and_half 8 (grey 51)).weights ∙ e) in omega arith

  -- the weights of another depth than the raw one, such as the corrected
  pub takes-another-depth : first_weights (found zero_and_half 8 (grey 51)) ≡ first_weights (right zero_and_half 16 (grey 51)) → ⊥
  unfolding opened
  takes-another-depth e = let z : ◌≡◌ {A = ℕ} 204_000 65_484_000 = ap first_weight (sym (kept zero_and_half 8 (grey 51)).weights ∙ e) in omega arith

  -- a code above the raw M is 23, however deep the corrected codes are
  pub judges-by-another-m : first_number (found zero_and_half 8 (grey 256)) ≡ 0 → ⊥
  unfolding opened
  judges-by-another-m e = let z : ◌≡◌ {A = ℕ} 23 0 = sym (kept zero_and_half 8 (grey 256)).number ∙ e in omega arith

  -- no code is too great for a depth that is unknown
  pub tries-codes-before-depth : first_number (found zero_and_half 9 (grey 65_535)) ≡ 23 → ⊥
  unfolding opened
  tries-codes-before-depth e = let z : ◌≡◌ {A = ℕ} 20 23 = sym (kept zero_and_half 9 (grey 65_535)).number ∙ e in omega arith

  -- what could not be read is 24 at any depth
  pub tries-depth-before-table : first_number (f one_row (table_from zero_and_half) 9 (grey 1)) ≡ 20 → ⊥
  unfolding opened
  tries-depth-before-table e = let z : ◌≡◌ {A = ℕ} 24 20 = sym (keeps one_row (table_from zero_and_half) 9 (grey 1)).number ∙ e in omega arith

  -- a refusal with rows: those that a code within M would have
  pub refuses-with-rows : first_rows (found zero_and_half 8 (grey 256)) ≡ thrice 0 1 → ⊥
  unfolding opened
  refuses-with-rows e = let z : ◌≡◌ {A = ℕ} 0 1 = ap second (sym (kept zero_and_half 8 (grey 256)).rows ∙ e) in omega arith

-- ---- the second half

abbrev pub Giver : Type 0
Giver = Description → List ℤ → Bits → Shares → SecondHalf

abbrev pub GivesAll : Giver → Type 0
GivesAll g = (d : Description) (table : List ℤ) (bits : Bits) (shares : Shares) → GivesCodes d table bits shares (g d table bits shares)

module _ (g : Giver) (keeps : GivesAll g) where
  -- its answer, of a file's table
  abbrev given : String → Bits → List ℕ → List ℤ → SecondHalf
  given file bits rows weights = g (described_by file) (table_from file) bits (shares_in rows weights)

  abbrev kept-given : (file : String) (bits : Bits) (rows : List ℕ) (weights : List ℤ)
      → GivesCodes (described_by file) (table_from file) bits (shares_in rows weights) (given file bits rows weights)
  kept-given file bits rows weights = keeps (described_by file) (table_from file) bits (shares_in rows weights)

  pub refuses-all-rows : ((d : Description) (table : List ℤ) (bits : Bits) (shares : Shares) → second_number (g d table bits shares) ≡ 0 → ⊥) → ⊥
  unfolding opened
  refuses-all-rows never =
      never (described_by corner) (table_from corner) (same_bits 8) (shares_in corner_rows corner_weights) (kept-given corner (same_bits 8) corner_rows corner_weights).number

  -- ---- what 26 is, of a table with rows 0 to 7 and D 255,000

  abbrev judged : List ℕ → List ℤ → ℕ
  judged rows weights = second_number (given corner (same_bits 8) rows weights)

  abbrev kept-judged : (rows : List ℕ) (weights : List ℤ)
      → judged rows weights ≡ second_number (second_half (described_by corner) (table_from corner) (same_bits 8) (shares_in rows weights))
  kept-judged rows weights = (kept-given corner (same_bits 8) rows weights).number

  -- row 8, with weight 0
  pub takes-a-row-beyond : judged (7 ∷ 8 ∷ []) (pos 255_000 ∷ pos 0 ∷ []) ≡ 0 → ⊥
  unfolding opened
  takes-a-row-beyond e = let z : ◌≡◌ {A = ℕ} 26 0 = sym (kept-judged (7 ∷ 8 ∷ []) (pos 255_000 ∷ pos 0 ∷ [])) ∙ e in omega arith

  -- a weight of -1 beside 255,001: the sum is right
  pub takes-a-negative-weight : judged (7 ∷ 0 ∷ []) (pos 255_001 ∷ negsuc 0 ∷ []) ≡ 0 → ⊥
  unfolding opened
  takes-a-negative-weight e = let z : ◌≡◌ {A = ℕ} 26 0 = sym (kept-judged (7 ∷ 0 ∷ []) (pos 255_001 ∷ negsuc 0 ∷ [])) ∙ e in omega arith

  -- a sum one below D, as a program that divides by the sum would
  pub takes-a-sum-below : judged (7 ∷ []) (pos 254_999 ∷ []) ≡ 0 → ⊥
  unfolding opened
  takes-a-sum-below e = let z : ◌≡◌ {A = ℕ} 26 0 = sym (kept-judged (7 ∷ []) (pos 254_999 ∷ [])) ∙ e in omega arith

  -- one above it
  pub takes-a-sum-above : judged (7 ∷ []) (pos 255_001 ∷ []) ≡ 0 → ⊥
  unfolding opened
  takes-a-sum-above e = let z : ◌≡◌ {A = ℕ} 26 0 = sym (kept-judged (7 ∷ []) (pos 255_001 ∷ [])) ∙ e in omega arith

  -- of 3D the last two places are not judged: a row beyond, and a negative weight
  pub judges-unused-places : judged (7 ∷ 0 ∷ 0 ∷ 0 ∷ 8 ∷ 0 ∷ []) (pos 255_000 ∷ pos 0 ∷ pos 0 ∷ pos 0 ∷ pos 0 ∷ negsuc 0 ∷ []) ≡ 26 → ⊥
  unfolding opened
  judges-unused-places e =
      let right = kept-judged (7 ∷ 0 ∷ 0 ∷ 0 ∷ 8 ∷ 0 ∷ []) (pos 255_000 ∷ pos 0 ∷ pos 0 ∷ pos 0 ∷ pos 0 ∷ negsuc 0 ∷ []) in
      let z : ◌≡◌ {A = ℕ} 0 26 = sym right ∙ e in
      omega arith

  -- of 1D they are: row 2 of two rows, in the last place
  pub judges-four-places-alone : second_number (given zero_and_half (same_bits 8) (0 ∷ 0 ∷ 0 ∷ 0 ∷ 0 ∷ 2 ∷ []) (thrice (pos 255_000) (pos 0))) ≡ 0 → ⊥
  unfolding opened
  judges-four-places-alone e =
      let right = (kept-given zero_and_half (same_bits 8) (0 ∷ 0 ∷ 0 ∷ 0 ∷ 0 ∷ 2 ∷ []) (thrice (pos 255_000) (pos 0))).number in
      let z : ◌≡◌ {A = ℕ} 26 0 = sym right ∙ e in
      omega arith

  -- rows and weights need not be those of any pixel: half of row 0 and half of row 7, with nothing between them
  pub takes-the-rule-alone : judged (0 ∷ 7 ∷ []) (pos 127_500 ∷ pos 127_500 ∷ []) ≡ 26 → ⊥
  unfolding opened
  takes-the-rule-alone e = let z : ◌≡◌ {A = ℕ} 0 26 = sym (kept-judged (0 ∷ 7 ∷ []) (pos 127_500 ∷ pos 127_500 ∷ [])) ∙ e in omega arith

  -- ---- depths

  -- the weights add up to the D of the raw depth, here 8 bits, whatever the corrected
  pub adds-up-by-the-corrected-depth : second_number (given corner (bits_of 8 16) corner_rows corner_weights) ≡ 26 → ⊥
  unfolding opened
  adds-up-by-the-corrected-depth e = let z : ◌≡◌ {A = ℕ} 0 26 = sym (kept-given corner (bits_of 8 16) corner_rows corner_weights).number ∙ e in omega arith

  -- codes of the raw depth: 51, and of 16 bits 13,107
  pub gives-raw-codes : first (second_codes (given corner (bits_of 8 16) corner_rows corner_weights)) ≡ 51 → ⊥
  unfolding opened
  gives-raw-codes e = let z : ◌≡◌ {A = ℕ} 13_107 51 = sym (ap first (kept-given corner (bits_of 8 16) corner_rows corner_weights).codes) ∙ e in omega arith

  -- row 8 is 26 only where both depths are known
  pub tries-rows-before-depths : second_number (given corner (bits_of 8 9) (replicate 6 8) corner_weights) ≡ 26 → ⊥
  unfolding opened
  tries-rows-before-depths e = let z : ◌≡◌ {A = ℕ} 20 26 = sym (kept-given corner (bits_of 8 9) (replicate 6 8) corner_weights).number ∙ e in omega arith

  -- ---- codes

  -- ties to the even code, or a quotient cut: rows 0 and 0.5, weights 254,000 and 1,000 would give 0
  pub ties-to-even-or-cut : first (second_codes (given zero_and_half (same_bits 8) (thrice 0 1) (thrice (pos 254_000) (pos 1_000)))) ≡ 0 → ⊥
  unfolding opened
  ties-to-even-or-cut e =
      let right = (kept-given zero_and_half (same_bits 8) (thrice 0 1) (thrice (pos 254_000) (pos 1_000))).codes in
      let z : ◌≡◌ {A = ℕ} 1 0 = sym (ap first right) ∙ e in
      omega arith

  -- the first two rows for every colour, in 1D too: here red has row 1 and green row 0, which are 128 and 0
  pub takes-red-for-all : let codes = second_codes (given zero_and_half (same_bits 8) (1 ∷ 1 ∷ 0 ∷ 0 ∷ 0 ∷ 0 ∷ []) (thrice (pos 255_000) (pos 0))) in
      second codes ≡ first codes → ⊥
  unfolding opened
  takes-red-for-all e =
      let right = (kept-given zero_and_half (same_bits 8) (1 ∷ 1 ∷ 0 ∷ 0 ∷ 0 ∷ 0 ∷ []) (thrice (pos 255_000) (pos 0))).codes in
      let z : ◌≡◌ {A = ℕ} 0 128 = sym (ap second right) ∙ e ∙ ap first right in
      omega arith

  -- a refusal with codes: those that the weights would give, had their sum been right
  pub refuses-with-codes : first (second_codes (given corner (same_bits 8) (7 ∷ []) (pos 254_999 ∷ []))) ≡ 255 → ⊥
  unfolding opened
  refuses-with-codes e = let z : ◌≡◌ {A = ℕ} 0 255 = sym (ap first (kept-given corner (same_bits 8) (7 ∷ []) (pos 254_999 ∷ [])).codes) ∙ e in omega arith
