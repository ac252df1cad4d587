use Rattle.std.proofs.Common.{arith}
use Rattle.lettering.proofs.Texts.{part_length}
use Rattle.digest.proofs.Texts.{word-length, word-turn, word-end}
use Rattle.digest.proofs.text.put_word.Goals as goal

pub bounds-out-at : goal.bounds-out-at
bounds-out-at c =
    omega (arith, part_length c.loop-i.invariant c.requires, c.requires.fits, word-length c.args.word, c.loop-i-test.true)

pub loop-i-preserved : goal.loop-i-preserved
loop-i-preserved c =
    word-turn c.args.word c.loop-i.invariant c.requires c.loop-i-test.true c.hex_byte.ensures

pub returns : goal.returns
returns c = word-end c.args.word c.loop-i.invariant c.requires c.loop-i-test.false
