use native.Mathlib.Omega.{arith}
use borrow.Author.Rules.{rules}
use Rattle.writing.proofs.Lengths.{Counted, counted, row-length}
use Rattle.writing.proofs.counts.count_row.Goals as goal

-- Each number comes through 64 bits as itself, and has at most 21 bytes: a sign, 12 digits, a point and 7 places.
pub overflow_add-result : goal.overflow_add-result
overflow_add-result c =
    let red : Counted c.args.row.red.0 c.count_decimals-first.result = counted _ _ (search rules) c.count_decimals-first.ensures in
    let green : Counted c.args.row.green.0 c.count_decimals-second.result = counted _ _ (search rules) c.count_decimals-second.ensures in
    record { fits = omega (arith, red.few, green.few) }

pub overflow_add-result-2 : goal.overflow_add-result-2
overflow_add-result-2 c =
    let red : Counted c.args.row.red.0 c.count_decimals-first.result = counted _ _ (search rules) c.count_decimals-first.ensures in
    let green : Counted c.args.row.green.0 c.count_decimals-second.result = counted _ _ (search rules) c.count_decimals-second.ensures in
    let blue : Counted c.args.row.blue.0 c.count_decimals-third.result = counted _ _ (search rules) c.count_decimals-third.ensures in
    record { fits = omega (arith, red.few, green.few, blue.few) }

pub overflow_add-result-3 : goal.overflow_add-result-3
overflow_add-result-3 c =
    let red : Counted c.args.row.red.0 c.count_decimals-first.result = counted _ _ (search rules) c.count_decimals-first.ensures in
    let green : Counted c.args.row.green.0 c.count_decimals-second.result = counted _ _ (search rules) c.count_decimals-second.ensures in
    let blue : Counted c.args.row.blue.0 c.count_decimals-third.result = counted _ _ (search rules) c.count_decimals-third.ensures in
    record { fits = omega (arith, red.few, green.few, blue.few) }

pub returns : goal.returns
returns c =
    let red : Counted c.args.row.red.0 c.count_decimals-first.result = counted _ _ (search rules) c.count_decimals-first.ensures in
    let green : Counted c.args.row.green.0 c.count_decimals-second.result = counted _ _ (search rules) c.count_decimals-second.ensures in
    let blue : Counted c.args.row.blue.0 c.count_decimals-third.result = counted _ _ (search rules) c.count_decimals-third.ensures in
    let length = row-length c.args.row.red.0 c.args.row.green.0 c.args.row.blue.0 in
    record { counts = omega (arith, red.counts, green.counts, blue.counts, length); few = omega (arith, red.few, green.few, blue.few) }
