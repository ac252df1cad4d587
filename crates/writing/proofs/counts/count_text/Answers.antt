use Prim.Native.Nat.{◌*◌, ◌≤◌}
use mathlib.Core.Path.{ap, ◌∙◌}
use native.Mathlib.Omega.{arith}
use lib.ListN.{length, take, length-append}
use Rattle.rules.specs.Descriptions.{rows}
use Rattle.rules.specs.Units.{row_limit}
use Rattle.rules.specs.Writing.{head_text, rows_text, file_text}
use Rattle.rules.proofs.Sound.{sound-of, range-rows-most}
use Rattle.writing.specs.Rows.{Headed}
use Rattle.writing.proofs.LineTexts.{headed}
use Rattle.writing.proofs.counts.count_text.Goals as goal

-- The head, and as many rows as the description has; at most 423 bytes and 66 for each of 16,777,216 rows.
pub count_rows-rows-requires : goal.count_rows-rows-requires
count_rows-rows-requires c =
    let tried : Headed c.args.d c.args.title.now = headed c.args.d c.args.table.now c.args.title.now c.requires.table_value c.requires.title_value in
    tried.range

pub count_head-requires : goal.count_head-requires
count_head-requires c =
    let tried : Headed c.args.d c.args.title.now = headed c.args.d c.args.table.now c.args.title.now c.requires.table_value c.requires.title_value in
    tried

pub count_lines-requires : goal.count_lines-requires
count_lines-requires c =
    let tried : Headed c.args.d c.args.title.now = headed c.args.d c.args.table.now c.args.title.now c.requires.table_value c.requires.title_value in
    let rows_few : c.count_rows-rows.result ≤ row_limit = omega (arith, c.count_rows-rows.ensures, range-rows-most c.args.d.kind c.args.d.n tried.range) in
    record { rows_le_row_limit = rows_few; rows_in_bounds = omega (arith, c.count_rows-rows.ensures, (sound-of c.args.d c.args.table.now c.requires.table_value).long) }

pub overflow_add-result : goal.overflow_add-result
overflow_add-result c =
    let tried : Headed c.args.d c.args.title.now = headed c.args.d c.args.table.now c.args.title.now c.requires.table_value c.requires.title_value in
    let rows_few : c.count_rows-rows.result ≤ row_limit = omega (arith, c.count_rows-rows.ensures, range-rows-most c.args.d.kind c.args.d.n tried.range) in
    record { fits = omega (arith, c.count_head.ensures.few, c.count_lines.ensures.few, rows_few) }

pub returns : goal.returns
unfolding file_text
returns c =
    let a = c.args in
    let table = a.table.now in
    let lines = c.count_lines.ensures.counts ∙ ap (λ n. length (rows_text (take (3 * n) table))) c.count_rows-rows.ensures in
    omega (arith, c.count_head.ensures.counts, lines, length-append (head_text a.d a.title.now) (rows_text (take (3 * rows a.d) table)))
