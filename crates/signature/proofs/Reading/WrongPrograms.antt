-- The promise of reading refutes wrong programs, those that document 01 names under "What the signature covers" and some of our own. What such a program does is
-- said of any program at all; that it keeps the promise is then absurd, at an input that the theorem holds.
use Prim.Native.Nat.{ℕ}
use Prim.Native.String.{String}
use mathlib.Core.Path.{◌≡◌, sym, ap, ◌∙◌}
use mathlib.Core.List.{List}
use native.Mathlib.Omega.{arith}
use lib.IntN.{ℤ, pos, nat_abs}
use lib.ListN.{get_or}
use Rattle.rules.specs.Reading.Lines.{bytes}
use Rattle.rules.specs.Answers.{read_number, read_line}
use Rattle.rules.specs.Promises.{Reads}
use Rattle.signature.specs.Cases.{no_upper, one_uneven, uneven_beside_whole, untouched, sample_a3, three_rows, zero_and_half}
use Rattle.signature.specs.OneDomain.{red_wider}
use Rattle.signature.proofs.Cases.{opened}
use Rattle.rules.specs.Results.{Read}

abbrev pub Reader : Type 0
Reader = List ℕ → List ℤ → Read × List ℤ

abbrev pub ReadsAll : Reader → Type 0
ReadsAll f = (file : List ℕ) (table : List ℤ) → Reads file table (f file table).0 (f file table).1

abbrev sevens : List ℤ
sevens = untouched 24

abbrev place : ℕ → List ℤ → ℕ
place k t = nat_abs (get_or t k (pos 0))

-- one step along red, in a cube: data line 1 is red index 1
abbrev red_step : String
red_step = "LUT_3D_SIZE 2\n0 0 0\n1 0 0\n0 0 0\n0 0 0\n0 0 0\n0 0 0\n0 0 0\n0 0 0\n"

abbrev bare_point : String
bare_point = "LUT_1D_SIZE 2\n5. 0 0\n0 0 0"

abbrev lone_point : String
lone_point = "LUT_1D_SIZE 2\n. 0 0\n0 0 0"

abbrev point_in_n : String
point_in_n = "LUT_1D_SIZE 2.\n0 0 0\n0 0 0"

abbrev half_alone : String
half_alone = "DOMAIN_MAX 2 2 2\n0 0 0"

abbrev half_and_order : String
half_and_order = "DOMAIN_MIN 0 1 0\nLUT_1D_SIZE 2\n0 0 0"

module _ (f : Reader) (keeps : ReadsAll f) where
  abbrev answered : String → Read
  answered file = (f (bytes file) sevens).0

  abbrev left : String → List ℤ
  left file = (f (bytes file) sevens).1

  a3-accepted : read_number (answered sample_a3) ≡ 0
  unfolding opened
  a3-accepted = (keeps (bytes sample_a3) sevens).number

  three-accepted : read_number (answered three_rows) ≡ 0
  unfolding opened
  three-accepted = (keeps (bytes three_rows) sevens).number

  a3-place : place 4 (left sample_a3) ≡ 10_000_000
  unfolding opened
  a3-place = ap (place 4) (keeps (bytes sample_a3) sevens).memory

  three-place : place 4 (left three_rows) ≡ 5_000_000
  unfolding opened
  three-place = ap (place 4) (keeps (bytes three_rows) sevens).memory

  pub refuses-all-files : ((file : List ℕ) (table : List ℤ) → read_number (f file table).0 ≡ 0 → ⊥) → ⊥
  refuses-all-files never = never (bytes sample_a3) sevens a3-accepted

  pub touches-no-memory : ((file : List ℕ) (table : List ℤ) → (f file table).1 ≡ table) → ⊥
  touches-no-memory same = let e : ◌≡◌ {A = ℕ} 77 10_000_000 = sym (ap (place 4) (same (bytes sample_a3) sevens)) ∙ a3-place in omega arith

  -- one table for every accepted file: A.3 and another file of three rows are both accepted
  pub same-table-always : (t : List ℤ) → ((file : List ℕ) (table : List ℤ) → read_number (f file table).0 ≡ 0 → (f file table).1 ≡ t) → ⊥
  same-table-always t same =
      let e = sym a3-place ∙ ap (place 4) (same (bytes sample_a3) sevens a3-accepted) in
      let g = sym three-place ∙ ap (place 4) (same (bytes three_rows) sevens three-accepted) in
      let z : ◌≡◌ {A = ℕ} 10_000_000 5_000_000 = e ∙ sym g in
      omega arith

  -- a line of its own invention: this file is refused on line 2
  pub invents-lines : (read_line (answered "\n # a") ≡ 2 → ⊥) → ⊥
  unfolding opened
  invents-lines other = other (keeps (bytes "\n # a") sevens).line

  -- blue run fastest: data line 1 would stand at row 4
  pub runs-blue-fastest : place 12 (left red_step) ≡ 10_000_000 → ⊥
  unfolding opened
  runs-blue-fastest e = let z : ◌≡◌ {A = ℕ} 0 10_000_000 = sym (ap (place 12) (keeps (bytes red_step) sevens).memory) ∙ e in omega arith

  -- a point with nothing after it refused, as it was before document 02's Req 01
  pub refuses-a-bare-point : read_number (answered bare_point) ≡ 15 → ⊥
  unfolding opened
  refuses-a-bare-point e = let z : ◌≡◌ {A = ℕ} 0 15 = sym (keeps (bytes bare_point) sevens).number ∙ e in omega arith

  -- a lone point taken, for 0 say
  pub takes-a-lone-point : read_number (answered lone_point) ≡ 0 → ⊥
  unfolding opened
  takes-a-lone-point e = let z : ◌≡◌ {A = ℕ} 15 0 = sym (keeps (bytes lone_point) sevens).number ∙ e in omega arith

  -- N read as a number
  pub takes-a-point-in-n : read_number (answered point_in_n) ≡ 0 → ⊥
  unfolding opened
  takes-a-point-in-n e = let z : ◌≡◌ {A = ℕ} 6 0 = sym (keeps (bytes point_in_n) sevens).number ∙ e in omega arith

  -- half a domain taken, with the default for the other line, as it was before document 02's Req 05
  pub fills-in-the-other-bound : read_number (answered no_upper) ≡ 0 → ⊥
  unfolding opened
  fills-in-the-other-bound e = let z : ◌≡◌ {A = ℕ} 19 0 = sym (keeps (bytes no_upper) sevens).number ∙ e in omega arith

  -- half a domain refused on its own line, where the other may still follow
  pub refuses-on-the-domain-line : read_line (answered no_upper) ≡ 1 → ⊥
  unfolding opened
  refuses-on-the-domain-line e = let z : ◌≡◌ {A = ℕ} 3 1 = sym (keeps (bytes no_upper) sevens).line ∙ e in omega arith

  -- 19 tried before 9
  pub halves-before-size : read_number (answered half_alone) ≡ 19 → ⊥
  unfolding opened
  halves-before-size e = let z : ◌≡◌ {A = ℕ} 9 19 = sym (keeps (bytes half_alone) sevens).number ∙ e in omega arith

  -- 10 tried before 19, with the default for the other line
  pub order-before-halves : read_number (answered half_and_order) ≡ 10 → ⊥
  unfolding opened
  order-before-halves e = let z : ◌≡◌ {A = ℕ} 19 10 = sym (keeps (bytes half_and_order) sevens).number ∙ e in omega arith

  -- both lines absent refused: the defaults stay
  pub asks-for-a-domain : read_number (answered zero_and_half) ≡ 19 → ⊥
  unfolding opened
  asks-for-a-domain e = let z : ◌≡◌ {A = ℕ} 0 19 = sym (keeps (bytes zero_and_half) sevens).number ∙ e in omega arith

  -- domains that differ refused, whole or not, as it was before document 02's Req 07
  pub refuses-mixed-domains : read_number (answered red_wider) ≡ 12 → ⊥
  unfolding opened
  refuses-mixed-domains e = let z : ◌≡◌ {A = ℕ} 0 12 = sym (keeps (bytes red_wider) sevens).number ∙ e in omega arith

  -- widths compared in place of domains
  pub compares-widths : read_number (answered uneven_beside_whole) ≡ 18 → ⊥
  unfolding opened
  compares-widths e = let z : ◌≡◌ {A = ℕ} 12 18 = sym (keeps (bytes uneven_beside_whole) sevens).number ∙ e in omega arith

  -- whole bounds asked for where the domains are one
  pub asks-one-domain-to-be-whole : read_number (answered one_uneven) ≡ 12 → ⊥
  unfolding opened
  asks-one-domain-to-be-whole e = let z : ◌≡◌ {A = ℕ} 0 12 = sym (keeps (bytes one_uneven) sevens).number ∙ e in omega arith
