use Rattle.std.proofs.Common.{◌<◌, length, sym, arith}
use Rattle.digest.proofs.Paddings.{ended-length, byte-of-one, byte-of-zeros, byte-of-length}
use Rattle.digest.proofs.padding.last_byte.Goals as goal

pub returns-then-i-rest-2 : goal.returns-then-i-rest-2
returns-then-i-rest-2 c = sym (byte-of-one c.args.rest.now c.args.bits c.args.i c.if-i-rest-2.true)

pub overflow_sub-end : goal.overflow_sub-end
overflow_sub-end c = omega (arith, c.requires.end_value, ended-length c.args.rest.now c.args.bits)

pub returns-then-i-end : goal.returns-then-i-end
returns-then-i-end c =
    let past : length c.args.rest.now < c.args.i = omega (arith, c.if-i-rest.false, c.if-i-rest-2.false) in
    sym (byte-of-zeros c.args.rest.now c.args.bits c.args.end c.args.i c.requires.rest_len_bound c.requires.end_value past c.if-i-end.true)

pub returns-then-i-end-2 : goal.returns-then-i-end-2
returns-then-i-end-2 c =
    sym (byte-of-length c.args.rest.now c.args.bits c.args.end c.args.i c.requires.rest_len_bound c.requires.end_value c.if-i-end.false c.if-i-end-2.true)
