-- The rows put so far: their text stands from the place on, and there is room for the rows that are left.
use Prim.Native.Nat.{ℕ, zero, suc, ◌+◌, ◌-◌, ◌*◌, ◌≤◌, ◌<◌}
use mathlib.Core.Path.{◌≡◌, ap, subst, sym, ◌∙◌}
use mathlib.Core.List.{List}
use native.Mathlib.Omega.{arith}
use lib.IntN.{ℤ}
use lib.ListN.{length, take, length-append}
use Rattle.rules.specs.Writing.{rows_text}
use Rattle.lettering.specs.Pens.{HasRoom, Adds}
use Rattle.lettering.specs.declared.Pen.{Pen}
use Rattle.lettering.proofs.Pens.{adds-nothing, adds-both}
use Rattle.lettering.proofs.Texts.{puts-length}
use Rattle.writing.specs.Rows.{row_at, text_of}
use Rattle.writing.proofs.LineTexts.{rows_more}

-- fewer rows have no longer text
fewer : (more : ℕ) (table : List ℤ) (i : ℕ) → 3 * (i + more) ≤ length table
    → length (rows_text (take (3 * i) table)) ≤ length (rows_text (take (3 * (i + more)) table))
fewer zero table i h = let same : i ≡ i + 0 = omega arith in subst (λ n. length (rows_text (take (3 * i) table)) ≤ length (rows_text (take (3 * n) table))) same (omega arith)
fewer (suc more) table i h =
    let next : i + 1 + more ≡ i + suc more = omega arith in
    let longer = ap length (rows_more table i (omega arith)) ∙ length-append (rows_text (take (3 * i) table)) (text_of (row_at table i)) in
    subst (λ n. length (rows_text (take (3 * i) table)) ≤ length (rows_text (take (3 * n) table))) next
    (omega (arith, longer, fewer more table (i + 1) (omega arith)))

-- the first i rows stand there
pub record RowsPut (first : Pen) (table : List ℤ) (rows : ℕ) (pen : Pen) (i : ℕ) : Type 0 where
  pub some : i ≤ rows
  pub adds : Adds first (rows_text (take (3 * i) table)) pen

pub none-put : (pen : Pen) (table : List ℤ) (rows : ℕ) → pen.at ≤ length pen.bytes.now → RowsPut pen table rows pen 0
unfolding rows_text
none-put pen table rows h = record { some = omega arith; adds = adds-nothing pen h }

module _ {first : Pen} {table : List ℤ} {rows : ℕ} {pen : Pen} {i : ℕ} (p : RowsPut first table rows pen i) where
  pub same-length-put : length pen.bytes.now ≡ length first.bytes.now
  same-length-put = puts-length p.adds.puts

  module _ (long : 3 * rows ≤ length table) (left : i < rows) where
    pub next_fits : 3 * i + 2 < length table
    next_fits = omega arith

    -- there is room for one row more
    pub next_row : HasRoom first (rows_text (take (3 * rows) table)) → HasRoom pen (text_of (row_at table i))
    next_row room =
        let longer = ap length (rows_more table i next_fits) ∙ length-append (rows_text (take (3 * i) table)) (text_of (row_at table i)) in
        let all : i + 1 + (rows - (i + 1)) ≡ rows = omega arith in
        let most : length (rows_text (take (3 * (i + 1)) table)) ≤ length (rows_text (take (3 * rows) table)) =
        subst (λ n. length (rows_text (take (3 * (i + 1)) table)) ≤ length (rows_text (take (3 * n) table))) all (fewer (rows - (i + 1)) table (i + 1) (omega arith)) in
        record { fits = omega (arith, room.fits, p.adds.puts.after, same-length-put, longer, most) }

    pub one-put : {last : Pen} → Adds pen (text_of (row_at table i)) last → RowsPut first table rows last (i + 1)
    one-put {last} q = record { some = omega arith; adds = subst (λ t. Adds first t last) (sym (rows_more table i next_fits)) (adds-both p.adds q) }

  pub all-put : rows ≤ i → Adds first (rows_text (take (3 * rows) table)) pen
  all-put h = let all : i ≡ rows = omega (arith, p.some) in subst (λ n. Adds first (rows_text (take (3 * n) table)) pen) all p.adds
