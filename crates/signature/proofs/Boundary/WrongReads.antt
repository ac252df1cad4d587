-- The promise of `erythmoda_read` refutes wrong calls: document 01's wrong programs, and those that only a boundary can have. A call is given its input and the lent
-- memory as it was, and answers a number and that memory as it is afterwards. What a wrong call does is said of any call at all; that it keeps the promise is
-- then absurd, at an input that the theorem holds.
use Prim.Native.Nat.{ℕ}
use mathlib.Core.Path.{◌≡◌, sym, ap, ◌∙◌}
use mathlib.Core.List.{List}
use native.Mathlib.Omega.{arith}
use lib.IntN.{ℤ, pos, nat_abs}
use lib.ListN.{get_or}
use Rattle.rules.specs.Reading.Lines.{bytes}
use Rattle.rules.specs.Boundary.{ReadsC}
use Rattle.signature.proofs.Boundary.Reads.{ReadLaid, read-laid, read-refused}
use Rattle.signature.specs.Cases.{untouched, sample_a3}
use Rattle.signature.proofs.Cases.{opened}
use Rattle.signature.proofs.Reading.WrongPrograms as W

abbrev size : ℕ → List ℤ → ℕ
size k numbers = nat_abs (get_or numbers k (pos 0))

-- the memory that reading is lent
pub record ReadLent : Type 0 where
  pub table : List ℤ
  pub eleven : List ℤ
  pub line : ℕ

abbrev pub ReadCall : Type 0
ReadCall = List ℕ → ReadLent → ℕ × ReadLent

abbrev pub ReadsCAll : ReadCall → Type 0
ReadsCAll call = (file : List ℕ) (lent : ReadLent)
    → ReadsC file lent.table (call file lent).0 (call file lent).1.table (call file lent).1.eleven (call file lent).1.line

-- a table, and 77 wherever else reading may write
abbrev around : List ℤ → ReadLent
around table = record { table = table; eleven = untouched 11; line = 77 }

module _ (call : ReadCall) (keeps : ReadsCAll call) where
  abbrev answered : List ℕ → ReadLent → ℕ
  answered file lent = (call file lent).0

  abbrev left : List ℕ → ReadLent → ReadLent
  left file lent = (call file lent).1

  -- the reader that the call makes
  abbrev laid : (file : List ℕ) (table : List ℤ)
      → ReadLaid file table (answered file (around table)) (left file (around table)).table (left file (around table)).eleven (left file (around table)).line
  laid file table = read-laid.0 (keeps file (around table))

  abbrev reader : W.Reader
  reader file table = ((laid file table).answer, (left file (around table)).table)

  reader-keeps : W.ReadsAll reader
  reader-keeps file table = (laid file table).reads

  pub refuses-all-files : ((file : List ℕ) (lent : ReadLent) → answered file lent ≡ 0 → ⊥) → ⊥
  refuses-all-files never = W.refuses-all-files reader reader-keeps (λ file table z. never file (around table) ((laid file table).number_so ∙ z))

  pub touches-no-memory : ((file : List ℕ) (lent : ReadLent) → (left file lent).table ≡ lent.table) → ⊥
  touches-no-memory same = W.touches-no-memory reader reader-keeps (λ file table. same file (around table))

  -- one table for every accepted file
  pub same-table-always : (t : List ℤ) → ((file : List ℕ) (lent : ReadLent) → answered file lent ≡ 0 → (left file lent).table ≡ t) → ⊥
  same-table-always t same = W.same-table-always reader reader-keeps t (λ file table z. same file (around table) ((laid file table).number_so ∙ z))

  abbrev full : ReadLent
  full = around (untouched 24)

  -- a line of its own invention: this file is refused on line 2
  pub invents-lines : ((left (bytes "\n # a") full).line ≡ 2 → ⊥) → ⊥
  unfolding opened
  invents-lines other = other (keeps (bytes "\n # a") full).line_so

  -- acceptance writes line 0
  pub counts-lines-of-an-accepted-file : ((left (bytes sample_a3) full).line ≡ 0 → ⊥) → ⊥
  unfolding opened
  counts-lines-of-an-accepted-file other = other (keeps (bytes sample_a3) full).line_so

  -- A.3's domains are 0 to 1, 0 to 2 and 0 to 3: bounds laid out colour by colour would have 1000 at place 3
  pub lays-bounds-in-pairs : size 3 (left (bytes sample_a3) full).eleven ≡ 1000 → ⊥
  unfolding opened
  lays-bounds-in-pairs e = let z : ◌≡◌ {A = ℕ} 0 1000 = sym (ap (size 3) (keeps (bytes sample_a3) full).description_so) ∙ e in omega arith

  refused : answered (bytes "\n # a") full ≡ 0 → ⊥
  unfolding opened
  refused e = let z : ◌≡◌ {A = ℕ} 3 0 = sym (keeps (bytes "\n # a") full).number_so ∙ e in omega arith

  -- a refusal leaves the eleven numbers that stood there: here N would be 77
  pub keeps-the-old-description : ((file : List ℕ) (lent : ReadLent) → (answered file lent ≡ 0 → ⊥) → (left file lent).eleven ≡ lent.eleven) → ⊥
  keeps-the-old-description same =
      let old = same (bytes "\n # a") full refused in
      let z : ◌≡◌ {A = ℕ} 77 0 = ap (size 1) (sym old ∙ (read-refused (keeps (bytes "\n # a") full) refused).1) in
      omega arith
