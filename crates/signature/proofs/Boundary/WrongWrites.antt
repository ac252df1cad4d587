-- The promise of `erythmoda_write` refutes wrong calls: those of write, and those that only a boundary can have. A call is given its input and the lent memory as
-- it was, and answers a number and that memory as it is afterwards. What a wrong call does is said of any call at all; that it keeps the promise is then absurd,
-- at an input that the theorem holds.
use Prim.Native.Nat.{ℕ}
use mathlib.Core.Path.{◌≡◌, sym, ap, ap₂, ◌∙◌}
use mathlib.Core.List.{List, [], ◌∷◌, ◌++◌}
use native.Mathlib.Omega.{arith}
use lib.IntN.{ℤ, pos, negsuc}
use lib.ListN.{get_or, replicate, take}
use Rattle.rules.specs.Reading.Lines.{bytes}
use Rattle.rules.specs.Boundary.{described_in, eleven_of, WritesC}
use Rattle.rules.specs.declared.Description.{Description}
use Rattle.signature.specs.Cases.{described_by, table_from, zero_and_half, zero_and_half_text, sample_a3, odd_title}
use Rattle.signature.proofs.Cases.{opened}
use Rattle.signature.proofs.Boundary.Crossing.{crosses}
use Rattle.signature.proofs.Boundary.Writes.{WriteLaid, write-laid}
use Rattle.signature.proofs.Writing.WrongPrograms as W

-- the memory that write is lent
pub record WriteLent : Type 0 where
  pub out : List ℕ
  pub count : ℕ

abbrev pub WriteCall : Type 0
WriteCall = List ℤ → List ℤ → List ℕ → WriteLent → ℕ × WriteLent

abbrev pub WritesCAll : WriteCall → Type 0
WritesCAll call = (eleven table : List ℤ) (title : List ℕ) (lent : WriteLent)
    → WritesC eleven table title lent.out (call eleven table title lent).0 (call eleven table title lent).1.out (call eleven table title lent).1.count

-- some bytes, and 77 where the length is to stand
abbrev around : List ℕ → WriteLent
around out = record { out = out; count = 77 }

-- so many bytes that hold 77
abbrev sevens : ℕ → WriteLent
sevens places = around (replicate places 77)

abbrev at : ℕ → List ℕ → ℕ
at k xs = get_or xs k 0

-- as many of the lent bytes as the length says
abbrev text : WriteLent → List ℕ
text left = take left.count left.out

-- two rows from 0 to 1, by the numbers of their kind and mark and of the title's place and length
abbrev two_rows : ℕ → ℤ → ℕ → ℕ → List ℤ
two_rows kind mark place span = pos kind ∷ pos 2 ∷ pos 0 ∷ pos 0 ∷ pos 0 ∷ pos 1000 ∷ pos 1000 ∷ pos 1000 ∷ mark ∷ pos place ∷ pos span ∷ []

module _ (call : WriteCall) (keeps : WritesCAll call) where
  -- ---- the writer that the call makes

  abbrev laid : (d : Description) (table : List ℤ) (title out : List ℕ)
      → WriteLaid d table title out (call (eleven_of d) table title (around out)).0 (call (eleven_of d) table title (around out)).1.out
      (call (eleven_of d) table title (around out)).1.count
  laid d table title out = write-laid (keeps (eleven_of d) table title (around out)) (crosses d)

  abbrev writer : W.Writer
  writer d table title out = ((laid d table title out).answer, (call (eleven_of d) table title (around out)).1.out)

  writer-keeps : W.WritesAll writer
  writer-keeps d table title out = (laid d table title out).writes

  pub refuses-all-tables : ((eleven table : List ℤ) (title : List ℕ) (lent : WriteLent) → (call eleven table title lent).0 ≡ 0 → ⊥) → ⊥
  refuses-all-tables never =
      W.refuses-all-tables writer writer-keeps (λ d table title out z. never (eleven_of d) table title (around out) ((laid d table title out).number_so ∙ z))

  -- ---- two rows of 0 and 0.5, with a title of two letters

  abbrev wrote : List ℤ → ℕ × WriteLent
  wrote eleven = call eleven (table_from zero_and_half) (bytes "Hi") (sevens 100)

  abbrev kept : (eleven : List ℤ) → WritesC eleven (table_from zero_and_half) (bytes "Hi") (replicate 100 77) (wrote eleven).0 (wrote eleven).1.out (wrote eleven).1.count
  kept eleven = keeps eleven (table_from zero_and_half) (bytes "Hi") (sevens 100)

  -- the mark is set by any number but 0: here 2
  pub takes-1-alone-for-a-mark : text (wrote (two_rows 1 (pos 2) 0 0)).1 ≡ bytes zero_and_half_text → ⊥
  unfolding opened described_in
  takes-1-alone-for-a-mark e =
      let right = ap₂ take (kept (two_rows 1 (pos 2) 0 0)).length_so (kept (two_rows 1 (pos 2) 0 0)).memory in
      let z : ◌≡◌ {A = ℕ} 84 76 = ap (at 0) (sym right ∙ e) in
      omega arith

  -- and one below 0
  pub takes-a-mark-below-0-for-none : text (wrote (two_rows 1 (negsuc 0) 0 0)).1 ≡ bytes zero_and_half_text → ⊥
  unfolding opened described_in
  takes-a-mark-below-0-for-none e =
      let right = ap₂ take (kept (two_rows 1 (negsuc 0) 0 0)).length_so (kept (two_rows 1 (negsuc 0) 0 0)).memory in
      let z : ◌≡◌ {A = ℕ} 84 76 = ap (at 0) (sym right ∙ e) in
      omega arith

  -- the title's bytes are those that were lent, not those from a place on
  pub looks-for-the-title-at-its-place : text (wrote (two_rows 1 (pos 1) 1 1)).1 ≡ bytes "TITLE \"i\"\n" ++ bytes zero_and_half_text → ⊥
  unfolding opened described_in
  looks-for-the-title-at-its-place e =
      let right = ap₂ take (kept (two_rows 1 (pos 1) 1 1)).length_so (kept (two_rows 1 (pos 1) 1 1)).memory in
      let z : ◌≡◌ {A = ℕ} 72 105 = ap (at 7) (sym right ∙ e) in
      omega arith

  -- a place and a length below 0 are not judged
  pub judges-the-title-places : (wrote (odd_title 1)).0 ≡ 24 → ⊥
  unfolding opened described_in
  judges-the-title-places e = let z : ◌≡◌ {A = ℕ} 0 24 = sym (kept (odd_title 1)).number_so ∙ e in omega arith

  -- a kind of 2 is 24
  pub writes-any-kind-as-1d : (wrote (two_rows 2 (pos 0) 0 0)).0 ≡ 0 → ⊥
  unfolding opened described_in
  writes-any-kind-as-1d e = let z : ◌≡◌ {A = ℕ} 24 0 = sym (kept (two_rows 2 (pos 0) 0 0)).number_so ∙ e in omega arith

  -- and writes nothing
  pub writes-on-a-refusal : ((wrote (two_rows 2 (pos 0) 0 0)).1.out ≡ replicate 100 77 → ⊥) → ⊥
  unfolding opened described_in
  writes-on-a-refusal other = other (kept (two_rows 2 (pos 0) 0 0)).memory

  -- a refusal writes length 0
  pub leaves-the-length-on-a-refusal : ((eleven table : List ℤ) (title : List ℕ) (lent : WriteLent) → ((call eleven table title lent).0 ≡ 0 → ⊥)
      → (call eleven table title lent).1.count ≡ lent.count) → ⊥
  unfolding opened described_in
  leaves-the-length-on-a-refusal same =
      let k = kept (two_rows 2 (pos 0) 0 0) in
      let old = same (two_rows 2 (pos 0) 0 0) (table_from zero_and_half) (bytes "Hi") (sevens 100) writes-any-kind-as-1d in
      let z : ◌≡◌ {A = ℕ} 0 77 = sym k.length_so ∙ old in
      omega arith

  -- of A.3's domains, 0 to 1, 0 to 2 and 0 to 3: as lower and upper in turn the numbers would be 0 0 2 and 0 1 3
  pub takes-bounds-in-pairs : let a = call (eleven_of (described_by sample_a3)) (table_from sample_a3) (bytes "Hi") (sevens 100) in
      text a.1 ≡ bytes "TITLE \"Hi\"\nLUT_1D_SIZE 3\nDOMAIN_MIN 0 0 2\nDOMAIN_MAX 0 1 3\n0 0 0\n0.5 1 1.5\n1 1 1\n" → ⊥
  unfolding opened described_in
  takes-bounds-in-pairs e =
      let k = keeps (eleven_of (described_by sample_a3)) (table_from sample_a3) (bytes "Hi") (sevens 100) in
      let right = ap₂ take k.length_so k.memory in
      let z : ◌≡◌ {A = ℕ} 48 50 = ap (at 40) (sym right ∙ e) in
      omega arith
