-- The promise of write refutes wrong programs that a hasty reader of document 02, Req 02, might write. What such a program does is said of any program at all;
-- that it keeps the promise is then absurd, at an input that the theorem holds.
use Prim.Native.Nat.{ℕ}
use Prim.Native.String.{String}
use mathlib.Core.Path.{◌≡◌, sym, ap, ap₂, ◌∙◌}
use mathlib.Core.List.{List, [], ◌++◌}
use native.Mathlib.Omega.{arith}
use lib.IntN.{ℤ}
use lib.ListN.{get_or, replicate, take}
use Rattle.rules.specs.Reading.Lines.{bytes}
use Rattle.rules.specs.Writing.{head_text, rows_text}
use Rattle.rules.specs.Answers.{write_number, written_length}
use Rattle.rules.specs.Promises.{Writes}
use Rattle.rules.specs.declared.Description.{Description}
use Rattle.signature.specs.Cases.{described_by, table_from, zero_and_half, zero_and_half_text, titled_half, far_apart}
use Rattle.signature.proofs.Cases.{opened}
use Rattle.rules.specs.Results.{Write}

abbrev pub Writer : Type 0
Writer = Description → List ℤ → List ℕ → List ℕ → Write × List ℕ

abbrev pub WritesAll : Writer → Type 0
WritesAll f = (d : Description) (table : List ℤ) (title out : List ℕ) → Writes d table title out (f d table title out).0 (f d table title out).1

-- so many lent bytes
abbrev lent : ℕ → List ℕ
lent n = replicate n 77

abbrev at : ℕ → List ℕ → ℕ
at k xs = get_or xs k 0

-- as many of the lent bytes as an answer says
abbrev text : Write × List ℕ → List ℕ
text a = take (written_length a.0) a.1

-- the size and the domain of the tables of two rows
abbrev head : String
head = "LUT_1D_SIZE 2\nDOMAIN_MIN 0 0 0\nDOMAIN_MAX 1 1 1\n"

-- 3D, all rows zero but row 1, in which red is greatest and the others least
abbrev red_row : String
red_row = "LUT_3D_SIZE 2\n0 0 0\n1 1 1\n0 0 0\n0 0 0\n0 0 0\n0 0 0\n0 0 0\n0 0 0\n"

module _ (f : Writer) (keeps : WritesAll f) where
  -- its answer with room enough
  abbrev wrote : String → List ℤ → String → Write × List ℕ
  wrote file table title = f (described_by file) table (bytes title) (lent 100)

  abbrev kept : (file : String) (table : List ℤ) (title : String)
      → Writes (described_by file) table (bytes title) (lent 100) (wrote file table title).0 (wrote file table title).1
  kept file table title = keeps (described_by file) table (bytes title) (lent 100)

  -- and with so many bytes, of the two rows of 0 and 0.5, whose text has 66
  abbrev into : ℕ → Write × List ℕ
  into places = f (described_by zero_and_half) (table_from zero_and_half) [] (lent places)

  abbrev kept-into : (places : ℕ) → Writes (described_by zero_and_half) (table_from zero_and_half) [] (lent places) (into places).0 (into places).1
  kept-into places = keeps (described_by zero_and_half) (table_from zero_and_half) [] (lent places)

  pub refuses-all-tables : ((d : Description) (table : List ℤ) (title out : List ℕ) → write_number (f d table title out).0 ≡ 0 → ⊥) → ⊥
  unfolding opened
  refuses-all-tables never = never (described_by zero_and_half) (table_from zero_and_half) [] (lent 66) (kept-into 66).number

  -- ---- numbers

  right : text (wrote zero_and_half far_apart "") ≡ bytes head ++ bytes "0 -0.5 1\n0.0000001 -1000 999.9999999\n"
  unfolding opened
  right = ap₂ take (kept zero_and_half far_apart "").length_so (kept zero_and_half far_apart "").memory

  -- 1.0 for 1
  pub gives-every-number-a-point : text (wrote zero_and_half far_apart "") ≡ bytes head ++ bytes "0.0 -0.5 1.0\n0.0000001 -1000.0 999.9999999\n" → ⊥
  unfolding opened
  gives-every-number-a-point e = let z : ◌≡◌ {A = ℕ} 32 46 = ap (at 49) (sym right ∙ e) in omega arith

  -- all seven places
  pub keeps-zeros-at-the-end : text (wrote zero_and_half far_apart "") ≡ bytes head ++ bytes "0 -0.5000000 1\n0.0000001 -1000 999.9999999\n" → ⊥
  unfolding opened
  keeps-zeros-at-the-end e = let z : ◌≡◌ {A = ℕ} 32 48 = ap (at 54) (sym right ∙ e) in omega arith

  -- .5 for 0.5
  pub leaves-out-the-zero : text (wrote zero_and_half far_apart "") ≡ bytes head ++ bytes "0 -.5 1\n.0000001 -1000 999.9999999\n" → ⊥
  unfolding opened
  leaves-out-the-zero e = let z : ◌≡◌ {A = ℕ} 48 46 = ap (at 51) (sym right ∙ e) in omega arith

  -- fewer characters, with an exponent
  pub uses-an-exponent : text (wrote zero_and_half far_apart "") ≡ bytes head ++ bytes "0 -0.5 1\n1e-7 -1e3 999.9999999\n" → ⊥
  unfolding opened
  uses-an-exponent e = let z : ◌≡◌ {A = ℕ} 48 49 = ap (at 57) (sym right ∙ e) in omega arith

  -- ---- rows and lines

  -- blue, green, red
  pub exchanges-the-columns : text (wrote zero_and_half far_apart "") ≡ bytes head ++ bytes "1 -0.5 0\n999.9999999 -1000 0.0000001\n" → ⊥
  unfolding opened
  exchanges-the-columns e = let z : ◌≡◌ {A = ℕ} 48 49 = ap (at 48) (sym right ∙ e) in omega arith

  -- blue fastest in place of red: row 1 would come out as row 4
  pub writes-blue-fastest : text (wrote red_row (table_from red_row) "")
      ≡ bytes "LUT_3D_SIZE 2\nDOMAIN_MIN 0 0 0\nDOMAIN_MAX 1 1 1\n0 0 0\n0 0 0\n0 0 0\n0 0 0\n1 1 1\n0 0 0\n0 0 0\n0 0 0\n" → ⊥
  unfolding opened
  writes-blue-fastest e =
      let red = ap₂ take (kept red_row (table_from red_row) "").length_so (kept red_row (table_from red_row) "").memory in
      let z : ◌≡◌ {A = ℕ} 49 48 = ap (at 54) (sym red ∙ e) in
      omega arith

  -- every place of the table, those past 3·rows too
  pub writes-every-place : let d = described_by zero_and_half in let table = table_from zero_and_half in
      text (wrote zero_and_half table "") ≡ head_text d [] ++ rows_text table → ⊥
  unfolding opened
  writes-every-place e =
      let rows = ap₂ take (kept zero_and_half (table_from zero_and_half) "").length_so (kept zero_and_half (table_from zero_and_half) "").memory in
      let z : ◌≡◌ {A = ℕ} 0 48 = ap (at 66) (sym rows ∙ e) in
      omega arith

  pub drops-the-last-newline : text (wrote zero_and_half far_apart "") ≡ bytes head ++ bytes "0 -0.5 1\n0.0000001 -1000 999.9999999" → ⊥
  unfolding opened
  drops-the-last-newline e = let z : ◌≡◌ {A = ℕ} 10 0 = ap (at 84) (sym right ∙ e) in omega arith

  pub writes-upper-before-lower : text (wrote zero_and_half far_apart "")
      ≡ bytes "LUT_1D_SIZE 2\nDOMAIN_MAX 1 1 1\nDOMAIN_MIN 0 0 0\n0 -0.5 1\n0.0000001 -1000 999.9999999\n" → ⊥
  unfolding opened
  writes-upper-before-lower e = let z : ◌≡◌ {A = ℕ} 73 65 = ap (at 22) (sym right ∙ e) in omega arith

  -- a domain of 0 to 1 has its lines too
  pub leaves-out-the-usual-domain : text (wrote zero_and_half far_apart "") ≡ bytes "LUT_1D_SIZE 2\n0 -0.5 1\n0.0000001 -1000 999.9999999\n" → ⊥
  unfolding opened
  leaves-out-the-usual-domain e = let z : ◌≡◌ {A = ℕ} 68 48 = ap (at 14) (sym right ∙ e) in omega arith

  -- ---- titles

  -- a title without the mark
  pub writes-an-unmarked-title : text (wrote zero_and_half (table_from zero_and_half) "Hi") ≡ bytes "TITLE \"Hi\"\n" ++ bytes zero_and_half_text → ⊥
  unfolding opened
  writes-an-unmarked-title e =
      let none = ap₂ take (kept zero_and_half (table_from zero_and_half) "Hi").length_so (kept zero_and_half (table_from zero_and_half) "Hi").memory in
      let z : ◌≡◌ {A = ℕ} 76 84 = ap (at 0) (sym none ∙ e) in
      omega arith

  pub judges-an-unmarked-title : write_number (wrote zero_and_half (table_from zero_and_half) "\"").0 ≡ 27 → ⊥
  unfolding opened
  judges-an-unmarked-title e = let z : ◌≡◌ {A = ℕ} 0 27 = sym (kept zero_and_half (table_from zero_and_half) "\"").number ∙ e in omega arith

  -- as many of the title's bytes as the description has for its own title: here one
  pub cuts-to-the-old-length : text (wrote titled_half (table_from titled_half) "Hi") ≡ bytes "TITLE \"H\"\n" ++ bytes zero_and_half_text → ⊥
  unfolding opened
  cuts-to-the-old-length e =
      let both = ap₂ take (kept titled_half (table_from titled_half) "Hi").length_so (kept titled_half (table_from titled_half) "Hi").memory in
      let z : ◌≡◌ {A = ℕ} 105 34 = ap (at 8) (sym both ∙ e) in
      omega arith

  -- a title of 250 bytes, as a line may have: with TITLE and its quotes it has more
  pub limits-a-title-as-a-line : write_number (f (described_by titled_half) (table_from titled_half) (replicate 250 65) (lent 400)).0 ≡ 0 → ⊥
  unfolding opened
  limits-a-title-as-a-line e =
      let z : ◌≡◌ {A = ℕ} 27 0 = sym (keeps (described_by titled_half) (table_from titled_half) (replicate 250 65) (lent 400)).number ∙ e in
      omega arith

  -- 27 comes before 13
  pub tries-room-before-the-title : write_number (f (described_by titled_half) (table_from titled_half) (bytes "\"") []).0 ≡ 13 → ⊥
  unfolding opened
  tries-room-before-the-title e =
      let z : ◌≡◌ {A = ℕ} 27 13 = sym (keeps (described_by titled_half) (table_from titled_half) (bytes "\"") []).number ∙ e in
      omega arith

  -- ---- room

  -- 13 where the lent bytes are as many as the text's
  pub wants-a-byte-to-spare : write_number (into 66).0 ≡ 13 → ⊥
  unfolding opened
  wants-a-byte-to-spare e = let z : ◌≡◌ {A = ℕ} 0 13 = sym (kept-into 66).number ∙ e in omega arith

  -- a byte of 0 after the text
  pub ends-the-text-with-0 : at 66 (into 67).1 ≡ 0 → ⊥
  unfolding opened
  ends-the-text-with-0 e = let z : ◌≡◌ {A = ℕ} 77 0 = sym (ap (at 66) (kept-into 67).memory) ∙ e in omega arith

  -- as much of the text as there is room for, and then 13
  pub writes-before-it-refuses : at 0 (into 65).1 ≡ at 0 (bytes zero_and_half_text) → ⊥
  unfolding opened
  writes-before-it-refuses e = let z : ◌≡◌ {A = ℕ} 77 76 = sym (ap (at 0) (kept-into 65).memory) ∙ e in omega arith

  -- the length that there should have been room for
  pub tells-the-length-with-13 : written_length (into 65).0 ≡ 66 → ⊥
  unfolding opened
  tells-the-length-with-13 e = let z : ◌≡◌ {A = ℕ} 0 66 = sym (kept-into 65).length_so ∙ e in omega arith
