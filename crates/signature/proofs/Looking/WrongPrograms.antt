-- The promise of look refutes wrong programs, those that document 01 names under "What the signature covers", those that two depths and domains that differ
-- invite (document 02, Req 06 and 07), and some of our own. What such a program does is said of any program at all; that it keeps the promise is then absurd,
-- at an input that the theorem holds.
use Prim.Native.Nat.{ℕ, ◌*◌}
use Prim.Native.String.{String}
use mathlib.Core.Path.{◌≡◌, refl, sym, ap, ◌∙◌}
use mathlib.Core.Bool.{false}
use mathlib.Core.List.{List, [], ◌∷◌, map}
use native.Mathlib.Omega.{arith}
use lib.IntN.{ℤ, pos, nat_abs}
use lib.ListN.{get_or}
use Rattle.whole.specs.Nearest.{code}
use Rattle.rules.specs.Units.{bits_of, same_bits, depths_of}
use Rattle.rules.specs.Descriptions.{every_colour, one_domain, whole_bounds}
use Rattle.rules.specs.Looking.Interpolation.{order, path_in}
use Rattle.rules.specs.Looking.{six, look}
use Rattle.rules.specs.Answers.{look_number, shares_of, look_codes, look_rows, look_weights}
use Rattle.rules.specs.Promises.{Looks}
use Rattle.rules.specs.declared.Bits.{Bits}
use Rattle.rules.specs.declared.Codes.{Codes}
use Rattle.rules.specs.declared.Description.{Description}
use Rattle.rules.specs.declared.Kind.TheVariants.{ThreeD}
use Rattle.rules.specs.declared.Share.{Share}
use Rattle.signature.specs.Cases.{described_by, table_from, grey, zero_and_half, minus_and_plus_half, corner, corner_pixel}
use Rattle.signature.specs.OneDomain.{own_fraction, look_before_at, red_wider, green_higher, all_wider, green_first, cube_to}
use Rattle.signature.proofs.Cases.{opened}
use Rattle.rules.specs.Results.{Look}

abbrev pub Looker : Type 0
Looker = Description → List ℤ → Bits → Codes → Look

abbrev pub LooksAll : Looker → Type 0
LooksAll f = (d : Description) (table : List ℤ) (bits : Bits) (pixel : Codes) → Looks d table bits pixel (f d table bits pixel)

abbrev first : List ℕ → ℕ
first xs = get_or xs 0 0

abbrev second : List ℕ → ℕ
second xs = get_or xs 1 0

abbrev first_weight : List ℤ → ℕ
first_weight ws = nat_abs (get_or ws 0 (pos 0))

-- a code of a depth with greatest code m, as the nearest of one with greatest code n
abbrev pub rescaled : ℕ → ℕ → ℕ → ℕ
rescaled m n c = code (pos (n * c)) m n

module _ (f : Looker) (keeps : LooksAll f) where
  -- its answer at 8 bits, of a file's table
  abbrev seen : String → Codes → Look
  seen file pixel = f (described_by file) (table_from file) (same_bits 8) pixel

  abbrev kept : (file : String) (pixel : Codes) → Looks (described_by file) (table_from file) (same_bits 8) pixel (seen file pixel)
  kept file pixel = keeps (described_by file) (table_from file) (same_bits 8) pixel

  pub refuses-all-pixels : ((d : Description) (table : List ℤ) (bits : Bits) (pixel : Codes) → look_number (f d table bits pixel) ≡ 0 → ⊥) → ⊥
  unfolding opened
  refuses-all-pixels never = never (described_by corner) (table_from corner) (same_bits 8) corner_pixel (kept corner corner_pixel).number

  dark : first (look_codes (seen minus_and_plus_half (grey 127))) ≡ 0
  unfolding opened
  dark = ap first (kept minus_and_plus_half (grey 127)).codes

  bright : first (look_codes (seen minus_and_plus_half (grey 128))) ≡ 1
  unfolding opened
  bright = ap first (kept minus_and_plus_half (grey 128)).codes

  pub one-code-for-all : ((d : Description) (table : List ℤ) (bits : Bits) (a b : Codes) → look_codes (f d table bits a) ≡ look_codes (f d table bits b)) → ⊥
  one-code-for-all same =
      let e : ◌≡◌ {A = ℕ} 0 1 = sym dark ∙ ap first (same (described_by minus_and_plus_half) (table_from minus_and_plus_half) (same_bits 8) (grey 127) (grey 128)) ∙ bright in
      omega arith

  -- rows and weights of its own invention: here they are 0, 4, 6, 7 and 51,000, 102,000, 51,000, 51,000
  pub invents-rows : (look_rows (seen corner corner_pixel) ≡ 0 ∷ 4 ∷ 6 ∷ 7 ∷ 0 ∷ 0 ∷ [] → ⊥) → ⊥
  unfolding opened
  invents-rows other = other (kept corner corner_pixel).rows

  pub invents-weights : (look_weights (seen corner corner_pixel) ≡ pos 51_000 ∷ pos 102_000 ∷ pos 51_000 ∷ pos 51_000 ∷ pos 0 ∷ pos 0 ∷ [] → ⊥) → ⊥
  unfolding opened
  invents-weights other = other (kept corner corner_pixel).weights

  -- trilinear in place of tetrahedral: the codes would be 16
  pub trilinear : look_codes (seen corner corner_pixel) ≡ 16 ∷ 16 ∷ 16 ∷ [] → ⊥
  unfolding opened
  trilinear e = let z : ◌≡◌ {A = ℕ} 51 16 = sym (ap first (kept corner corner_pixel).codes) ∙ ap first e in omega arith

  -- ties to the even code, or a quotient cut: rows 0 and 0.5, code 1 would give 0
  pub ties-to-even-or-cut : first (look_codes (seen zero_and_half (grey 1))) ≡ 0 → ⊥
  unfolding opened
  ties-to-even-or-cut e = let z : ◌≡◌ {A = ℕ} 1 0 = sym (ap first (kept zero_and_half (grey 1)).codes) ∙ e in omega arith

  -- ---- two depths, of a file whose rows are 0 and 0.5

  -- its answer, and the right one
  abbrev between : ℕ → ℕ → Codes → Look
  between raw corrected pixel = f (described_by zero_and_half) (table_from zero_and_half) (bits_of raw corrected) pixel

  abbrev right : ℕ → ℕ → Codes → Look
  right raw corrected pixel = look (described_by zero_and_half) (table_from zero_and_half) (bits_of raw corrected) pixel

  abbrev kept-between : (raw corrected : ℕ) (pixel : Codes) → Looks (described_by zero_and_half) (table_from zero_and_half) (bits_of raw corrected) pixel (between raw corrected pixel)
  kept-between raw corrected pixel = keeps (described_by zero_and_half) (table_from zero_and_half) (bits_of raw corrected) pixel

  -- the value 0.5, as a code of 16 bits
  half : first (look_codes (between 8 16 (grey 255))) ≡ 32_768
  unfolding opened
  half = ap first (kept-between 8 16 (grey 255)).codes

  -- the raw and the corrected depth exchanged: code 255 of 16 bits has code 0 of 8 bits
  pub exchanges-the-depths : look_codes (between 8 16 (grey 255)) ≡ look_codes (right 16 8 (grey 255)) → ⊥
  unfolding opened
  exchanges-the-depths e = let z : ◌≡◌ {A = ℕ} 32_768 0 = sym half ∙ ap first e in omega arith

  -- codes of the raw depth: 128
  pub gives-raw-codes : look_codes (between 8 16 (grey 255)) ≡ look_codes (right 8 8 (grey 255)) → ⊥
  unfolding opened
  gives-raw-codes e = let z : ◌≡◌ {A = ℕ} 32_768 128 = sym half ∙ ap first e in omega arith

  -- the nearest code of the raw depth, and of that the nearest of the corrected depth: 128 times 257
  pub rounds-twice : first (look_codes (between 8 16 (grey 255))) ≡ rescaled 255 65_535 (first (look_codes (right 8 8 (grey 255)))) → ⊥
  unfolding opened
  rounds-twice e = let z : ◌≡◌ {A = ℕ} 32_768 32_896 = sym half ∙ e in omega arith

  -- a code above the raw M is 23 only where both depths are known
  pub tries-codes-before-depths : look_number (between 8 9 (grey 256)) ≡ 23 → ⊥
  unfolding opened
  tries-codes-before-depths e = let z : ◌≡◌ {A = ℕ} 20 23 = sym (kept-between 8 9 (grey 256)).number ∙ e in omega arith

  -- a code above the raw M is 23, whatever the corrected M
  pub judges-by-the-corrected-m : look_number (between 8 16 (grey 256)) ≡ 0 → ⊥
  unfolding opened
  judges-by-the-corrected-m e = let z : ◌≡◌ {A = ℕ} 23 0 = sym (kept-between 8 16 (grey 256)).number ∙ e in omega arith

  -- ---- domains that differ

  -- red from 0 to 2, the others from 0 to 1: rows 0, 2, 3, 7 and weights 204, 102, 102, 102, which add up to 510
  green-first : second (look_rows (seen red_wider green_first)) ≡ 2
  unfolding opened
  green-first = ap second (kept red_wider green_first).rows

  -- the order of the fractions' own numerators, each over a D of its own: rows 0, 1, 3, 7
  pub orders-by-own-numerators : let d = described_by red_wider in
      look_rows (seen red_wider green_first) ≡ map (λ (s : Share). s.row) (shares_of (six (path_in d 255 green_first (order (own_fraction d 255 green_first))))) → ⊥
  unfolding opened
  orders-by-own-numerators e = let z : ◌≡◌ {A = ℕ} 2 1 = sym green-first ∙ ap second e in omega arith

  -- the weights of a look that brings nothing to a common D: 306,000 first, of 510,000
  abbrev weights_before : String → List ℤ
  weights_before file = look_weights (look_before_at (described_by file) (table_from file) green_first (depths_of (same_bits 8)))

  pub brings-nothing : look_weights (seen red_wider green_first) ≡ weights_before red_wider → ⊥
  unfolding opened look_before_at
  brings-nothing e = let z : ◌≡◌ {A = ℕ} 204 306_000 = sym (ap first_weight (kept red_wider green_first).weights) ∙ ap first_weight e in omega arith

  -- widths compared in place of domains: green from 1 to 2 beside 0 to 1 differs, and the weights add up to 255, not to 255,000
  pub compares-widths : look_weights (seen green_higher green_first) ≡ weights_before green_higher → ⊥
  unfolding opened look_before_at
  compares-widths e = let z : ◌≡◌ {A = ℕ} 51 51_000 = sym (ap first_weight (kept green_higher green_first).weights) ∙ ap first_weight e in omega arith

  -- the common D also where the domains are one, from 0 to 2: the weights add up to 510,000 there, not to 2,040
  pub common-d-for-one-domain : look_weights (seen all_wider green_first) ≡ pos 1_224 ∷ pos 204 ∷ pos 408 ∷ pos 204 ∷ pos 0 ∷ pos 0 ∷ [] → ⊥
  unfolding opened
  common-d-for-one-domain e = let z : ◌≡◌ {A = ℕ} 306_000 1_224 = sym (ap first_weight (kept all_wider green_first).weights) ∙ ap first_weight e in omega arith

  pub refuses-mixed-domains : ((d : Description) (table : List ℤ) (bits : Bits) (pixel : Codes) → d.kind ≡ ThreeD → one_domain d ≡ false
      → look_number (f d table bits pixel) ≡ 24) → ⊥
  unfolding opened
  refuses-mixed-domains always =
      let e = always (described_by red_wider) (table_from red_wider) (same_bits 8) green_first refl refl in
      let z : ◌≡◌ {A = ℕ} 0 24 = sym (kept red_wider green_first).number ∙ e in
      omega arith

  -- blue from 0 to 1.5, beside 0 to 2 and 0 to 1
  pub takes-an-uneven-bound : look_number (f (cube_to 2000 1000 1500) (table_from red_wider) (same_bits 8) green_first) ≡ 0 → ⊥
  unfolding opened
  takes-an-uneven-bound e =
      let z : ◌≡◌ {A = ℕ} 24 0 = sym (keeps (cube_to 2000 1000 1500) (table_from red_wider) (same_bits 8) green_first).number ∙ e in
      omega arith

  -- all three from 0 to 1.5
  pub asks-one-domain-to-be-whole : ((d : Description) (table : List ℤ) (bits : Bits) (pixel : Codes) → d.kind ≡ ThreeD → every_colour whole_bounds d ≡ false
      → look_number (f d table bits pixel) ≡ 24) → ⊥
  unfolding opened
  asks-one-domain-to-be-whole always =
      let e = always (cube_to 1500 1500 1500) (table_from red_wider) (same_bits 8) green_first refl refl in
      let z : ◌≡◌ {A = ℕ} 0 24 = sym (keeps (cube_to 1500 1500 1500) (table_from red_wider) (same_bits 8) green_first).number ∙ e in
      omega arith
