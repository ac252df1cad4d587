-- The promise of picture refutes wrong programs, those that document 01 names under "What the signature covers", those that two depths and domains that differ
-- invite (document 02, Req 06 and 07), and some of our own. What such a program does is said of any program at all; that it keeps the promise is then absurd,
-- at an input that the theorem holds.
use Prim.Native.Nat.{ℕ}
use mathlib.Core.Path.{◌≡◌, refl, sym, ap, ◌∙◌}
use mathlib.Core.Bool.{false}
use mathlib.Core.List.{List, [], ◌∷◌}
use native.Mathlib.Omega.{arith}
use lib.IntN.{ℤ}
use lib.ListN.{get_or, replicate}
use Rattle.rules.specs.Units.{bits_of, same_bits, depths_of}
use Rattle.rules.specs.Descriptions.{one_domain}
use Rattle.rules.specs.Looking.Interpolation.{den_of, order, path_in, code_by}
use Rattle.rules.specs.Picturing.{corrected}
use Rattle.rules.specs.Answers.{codes_of, look_codes, picture_number}
use Rattle.rules.specs.Promises.{Pictures}
use Rattle.rules.specs.declared.Bits.{Bits}
use Rattle.rules.specs.declared.Colour.TheVariants.{Red}
use Rattle.rules.specs.declared.Description.{Description}
use Rattle.rules.specs.declared.Kind.TheVariants.{ThreeD}
use Rattle.signature.specs.Cases.{described_by, table_from, zero_and_half}
use Rattle.signature.specs.OneDomain.{own_fraction, look_before_at, red_wider, green_first, cube_to}
use Rattle.signature.proofs.Cases.{opened}
use Rattle.signature.proofs.Looking.WrongPrograms.{rescaled}
use Rattle.rules.specs.Results.{Picture}

abbrev pub Painter : Type 0
Painter = Description → List ℤ → Bits → List ℕ → List ℕ → Picture × List ℕ

abbrev pub PicturesAll : Painter → Type 0
PicturesAll f = (d : Description) (table : List ℤ) (bits : Bits) (src dst : List ℕ) → Pictures d table bits src dst (f d table bits src dst).0 (f d table bits src dst).1

-- two pixels, and an output with one place more
abbrev two_pixels : List ℕ
two_pixels = 1 ∷ 3 ∷ 1 ∷ 3 ∷ 1 ∷ 3 ∷ []

abbrev output : List ℕ
output = replicate 7 77

abbrev at : ℕ → List ℕ → ℕ
at k xs = get_or xs k 0

module _ (f : Painter) (keeps : PicturesAll f) where
  abbrev painted : Picture × List ℕ
  painted = f (described_by zero_and_half) (table_from zero_and_half) (same_bits 8) two_pixels output

  -- the corrected codes, and 77 where the picture has no code
  whole-output : painted.1 ≡ 1 ∷ 2 ∷ 1 ∷ 2 ∷ 1 ∷ 2 ∷ 77 ∷ []
  unfolding opened
  whole-output = (keeps (described_by zero_and_half) (table_from zero_and_half) (same_bits 8) two_pixels output).memory

  pub refuses-all-pictures : ((d : Description) (table : List ℤ) (bits : Bits) (src dst : List ℕ) → picture_number (f d table bits src dst).0 ≡ 0 → ⊥) → ⊥
  unfolding opened
  refuses-all-pictures never = never _ _ (same_bits 8) two_pixels output (keeps (described_by zero_and_half) (table_from zero_and_half) (same_bits 8) two_pixels output).number

  -- one code for every pixel: here the red codes of the two pixels are 1 and 2
  pub one-code-for-every-pixel : at 0 painted.1 ≡ at 3 painted.1 → ⊥
  one-code-for-every-pixel e = let z : ◌≡◌ {A = ℕ} 1 2 = sym (ap (at 0) whole-output) ∙ e ∙ ap (at 3) whole-output in omega arith

  -- the first pixel corrected and the rest copied, or all copied: the second pixel's red code is 3 in the picture
  pub copies-the-rest : at 3 painted.1 ≡ at 3 two_pixels → ⊥
  copies-the-rest e = let z : ◌≡◌ {A = ℕ} 2 3 = sym (ap (at 3) whole-output) ∙ e in omega arith

  pub writes-past-the-picture : (at 6 painted.1 ≡ at 6 output → ⊥) → ⊥
  writes-past-the-picture other = other (ap (at 6) whole-output)

  -- ---- two depths, raw codes of one and corrected codes of another

  abbrev between : ℕ → ℕ → List ℕ → Picture × List ℕ
  between from to src = f (described_by zero_and_half) (table_from zero_and_half) (bits_of from to) src output

  abbrev kept-between : (from to : ℕ) (src : List ℕ)
      → Pictures (described_by zero_and_half) (table_from zero_and_half) (bits_of from to) src output (between from to src).0 (between from to src).1
  kept-between from to src = keeps (described_by zero_and_half) (table_from zero_and_half) (bits_of from to) src output

  -- the codes that are right there
  abbrev right : ℕ → ℕ → List ℕ
  right from to = corrected (described_by zero_and_half) (table_from zero_and_half) (bits_of from to) two_pixels

  wide-output : (between 8 16 two_pixels).1 ≡ 129 ∷ 386 ∷ 129 ∷ 386 ∷ 129 ∷ 386 ∷ 77 ∷ []
  unfolding opened
  wide-output = (kept-between 8 16 two_pixels).memory

  -- the raw and the corrected depth exchanged: code 1 of 16 bits has code 0 of 8 bits
  pub exchanges-the-depths : at 0 (between 8 16 two_pixels).1 ≡ at 0 (right 16 8) → ⊥
  unfolding opened
  exchanges-the-depths e = let z : ◌≡◌ {A = ℕ} 129 0 = sym (ap (at 0) wide-output) ∙ e in omega arith

  -- codes of the raw depth: the second pixel's red code is 2
  pub gives-raw-codes : at 3 (between 8 16 two_pixels).1 ≡ at 3 (right 8 8) → ⊥
  unfolding opened
  gives-raw-codes e = let z : ◌≡◌ {A = ℕ} 386 2 = sym (ap (at 3) wide-output) ∙ e in omega arith

  -- the nearest code of the raw depth, and of that the nearest of the corrected depth: 2 times 257
  pub rounds-twice : at 3 (between 8 16 two_pixels).1 ≡ rescaled 255 65_535 (at 3 (right 8 8)) → ⊥
  unfolding opened
  rounds-twice e = let z : ◌≡◌ {A = ℕ} 386 514 = sym (ap (at 3) wide-output) ∙ e in omega arith

  -- a code above the raw M is 23 only where both depths are known
  pub tries-codes-before-depths : picture_number (between 8 9 (1 ∷ 3 ∷ 256 ∷ [])).0 ≡ 23 → ⊥
  unfolding opened
  tries-codes-before-depths e = let z : ◌≡◌ {A = ℕ} 20 23 = sym (kept-between 8 9 (1 ∷ 3 ∷ 256 ∷ [])).number ∙ e in omega arith

  -- a code above the raw M is 23, whatever the corrected M
  pub judges-by-the-corrected-m : picture_number (between 8 16 (1 ∷ 3 ∷ 256 ∷ [])).0 ≡ 0 → ⊥
  unfolding opened
  judges-by-the-corrected-m e = let z : ◌≡◌ {A = ℕ} 23 0 = sym (kept-between 8 16 (1 ∷ 3 ∷ 256 ∷ [])).number ∙ e in omega arith

  -- ---- domains that differ: one pixel, of a table with red from 0 to 2 and the others from 0 to 1

  abbrev painted-in : Description → Picture × List ℕ
  painted-in d = f d (table_from red_wider) (same_bits 8) (codes_of green_first) output

  abbrev kept_in : (d : Description) → Pictures d (table_from red_wider) (same_bits 8) (codes_of green_first) output (painted-in d).0 (painted-in d).1
  kept_in d = keeps d (table_from red_wider) (same_bits 8) (codes_of green_first) output

  green-first : at 0 (painted-in (described_by red_wider)).1 ≡ 102
  unfolding opened
  green-first = ap (at 0) (kept_in (described_by red_wider)).memory

  -- the order of the fractions' own numerators, each over a D of its own: 51
  pub orders-by-own-numerators : let d = described_by red_wider in
      at 0 (painted-in d).1 ≡ code_by 255 (den_of d 255 Red) (table_from red_wider) Red (path_in d 255 green_first (order (own_fraction d 255 green_first))) → ⊥
  unfolding opened
  orders-by-own-numerators e = let z : ◌≡◌ {A = ℕ} 102 51 = sym green-first ∙ e in omega arith

  -- nothing brought to a common D: 26
  pub brings-nothing : let d = described_by red_wider in
      at 0 (painted-in d).1 ≡ at 0 (look_codes (look_before_at d (table_from red_wider) green_first (depths_of (same_bits 8)))) → ⊥
  unfolding opened look_before_at
  brings-nothing e = let z : ◌≡◌ {A = ℕ} 102 26 = sym green-first ∙ e in omega arith

  pub refuses-mixed-domains : ((d : Description) (table : List ℤ) (bits : Bits) (src dst : List ℕ) → d.kind ≡ ThreeD → one_domain d ≡ false
      → picture_number (f d table bits src dst).0 ≡ 24) → ⊥
  unfolding opened
  refuses-mixed-domains always =
      let e = always (described_by red_wider) (table_from red_wider) (same_bits 8) (codes_of green_first) output refl refl in
      let z : ◌≡◌ {A = ℕ} 0 24 = sym (kept_in (described_by red_wider)).number ∙ e in
      omega arith

  -- blue from 0 to 1.5, beside 0 to 2 and 0 to 1
  pub takes-an-uneven-bound : picture_number (painted-in (cube_to 2000 1000 1500)).0 ≡ 0 → ⊥
  unfolding opened
  takes-an-uneven-bound e = let z : ◌≡◌ {A = ℕ} 24 0 = sym (kept_in (cube_to 2000 1000 1500)).number ∙ e in omega arith
