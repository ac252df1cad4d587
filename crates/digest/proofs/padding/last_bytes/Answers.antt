use Rattle.std.proofs.Common.{length, arith}
use Rattle.digest.proofs.Paddings.{blocks-fit}
use Rattle.digest.proofs.padding.last_bytes.Goals as goal

pub overflow_mul-end : goal.overflow_mul-end
overflow_mul-end c =
    let b = c.count_last_blocks-end in
    record { fits = omega (arith, blocks-fit (length c.args.rest.now) c.args.bits b.result c.requires (b.ensures c.args.bits)) }
