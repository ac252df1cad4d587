use native.Mathlib.Omega.{arith}
use Rattle.rules.proofs.Writing.Lengths.{size-most}
use Rattle.writing.proofs.Lengths.{size-length}
use Rattle.writing.proofs.counts.count_size.Goals as goal

pub overflow_add-result : goal.overflow_add-result
overflow_add-result c = record { fits = omega (arith, c.count_digits.ensures, size-most c.args.kind c.args.n c.requires) }

pub returns : goal.returns
returns c =
    let n = c.args.n in
    record { counts = omega (arith, c.count_digits.ensures, size-length c.args.kind n); few = omega (arith, c.count_digits.ensures, size-most c.args.kind n c.requires) }
