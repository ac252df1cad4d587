-- How many bytes the lines have: three numbers of 64 bits and what stands between them take at most 66, and the lines of some rows are counted as one more follows.
use Prim.Native.Nat.{ℕ, ◌+◌, ◌*◌, ◌≤◌, ◌<◌}
use mathlib.Core.Path.{◌≡◌, refl, ap, ◌∙◌}
use mathlib.Core.List.{List}
use native.Mathlib.Omega.{arith}
use lib.IntN.{ℤ}
use lib.ListN.{length, take, length-append}
use mir.Syntax.{w64}
use mir.Val.{to_z, of_z, SFits}
use mir.ValLaws.{to_z-of_z}
use Rattle.rules.specs.Units.{sample_places}
use Rattle.rules.specs.Decimals.{decimal, decimals_of}
use Rattle.rules.specs.Fields.{parted}
use Rattle.rules.specs.Reading.Lines.{bytes}
use Rattle.rules.specs.Reading.Items.{named}
use Rattle.rules.specs.Reading.Grammar.{lowers, uppers}
use Rattle.rules.specs.Writing.{bounds_text, head_text, row_text, rows_text, size_text, title_text}
use Rattle.rules.specs.declared.Bounds.{Bounds}
use Rattle.rules.specs.declared.Description.{Description}
use Rattle.rules.specs.declared.Keyword.{Keyword}
use Rattle.rules.specs.declared.Keyword.TheVariants.{ALower, AnUpper}
use Rattle.rules.specs.declared.Kind.{Kind}
use Rattle.rules.specs.declared.Kind.TheVariants.{OneD, ThreeD}
use Rattle.rules.proofs.Writing.Lengths.{lower-named, upper-named}
use Rattle.lettering.proofs.Longest.{longest}
use Rattle.writing.specs.Rows.{finer, row_at, text_of}
use Rattle.writing.proofs.LineTexts.{bounds-text, rows_more}

-- ---- a line

pub size-length : (k : Kind) (n : ℕ) → length (size_text k n) ≡ length (decimal n) + 13
unfolding size_text parted bytes
size-length OneD n = simp length-append (omega arith)
size-length ThreeD n = simp length-append (omega arith)

pub row-length : (r g b : ℤ) → length (row_text r g b) ≡ length (decimals_of sample_places r) + length (decimals_of sample_places g) + length (decimals_of sample_places b) + 3
unfolding row_text parted
row-length r g b = simp length-append (omega arith)

-- a keyword of 10 bytes, a space, and the row of the finer bounds
abbrev pub bounds_length : Bounds → ℕ
bounds_length b = 11 + length (text_of (finer b))

bounds-length : (k : Keyword) (b : Bounds) → length (named k) ≡ 10 → length (bounds_text k b) ≡ bounds_length b
bounds-length k b ten = rw (bounds-text k b, length-append) (omega arith)

-- title, size, both lines of the domain
pub head-length : (d : Description) (title : List ℕ)
    → length (head_text d title) ≡ length (title_text d.title.there title) + length (size_text d.kind d.n) + bounds_length (lowers d) + bounds_length (uppers d)
unfolding head_text
head-length d title =
    simp length-append (omega (arith, bounds-length ALower (lowers d) lower-named, bounds-length AnUpper (uppers d) upper-named))

-- ---- a number that comes through 64 bits

-- so many bytes are its text, of which there are few
pub record Counted (z : ℤ) (n : ℕ) : Type 0 where
  pub counts : n ≡ length (decimals_of sample_places z)
  pub few : n ≤ 21

pub counted : (z : ℤ) (n : ℕ) → SFits w64 z → n ≡ length (decimals_of sample_places (to_z w64 (of_z w64 z))) → Counted z n
counted z n f e =
    let same = e ∙ ap (λ x. length (decimals_of sample_places x)) (to_z-of_z w64 z f) in
    record { counts = same; few = rw same (longest z f) }

-- ---- the lines of rows

-- so many bytes are the text of the first i of the rows
pub record RowsCounted (table : List ℤ) (rows i n : ℕ) : Type 0 where
  pub some : i ≤ rows
  pub counts : n ≡ length (rows_text (take (3 * i) table))
  pub few : n ≤ 66 * i

pub none-counted : (table : List ℤ) (rows : ℕ) → RowsCounted table rows 0 0
unfolding rows_text
none-counted table rows = record { some = omega arith; counts = refl; few = omega arith }

pub one-counted : {table : List ℤ} {rows i n : ℕ} (more : ℕ) → 3 * rows ≤ length table → i < rows → RowsCounted table rows i n
    → more ≡ length (text_of (row_at table i)) → more ≤ 66 → RowsCounted table rows (i + 1) (n + more)
one-counted {table} {rows} {i} {n} more long h c e few =
    let all = ap length (rows_more table i (omega arith)) ∙ length-append (rows_text (take (3 * i) table)) (text_of (row_at table i)) in
    record { some = omega arith; counts = omega (arith, all, c.counts); few = omega (arith, c.few) }

pub all-counted : {table : List ℤ} {rows i n : ℕ} → RowsCounted table rows i n → rows ≤ i
    → (n ≡ length (rows_text (take (3 * rows) table))) × (n ≤ 66 * rows)
all-counted {table} {rows} {i} {n} c h =
    let all : i ≡ rows = omega (arith, c.some) in
    (c.counts ∙ ap (λ m. length (rows_text (take (3 * m) table))) all, omega (arith, c.few))
