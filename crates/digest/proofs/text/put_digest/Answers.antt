use Rattle.std.proofs.Common.{arith}
use Rattle.lettering.proofs.Texts.{nothing_put}
use Rattle.digest.specs.Hexadecimal.{hex_words, words_of}
use Rattle.digest.proofs.Texts.{next-word-room, next-word-put}
use Rattle.digest.proofs.text.put_digest.Goals as goal

pub loop-word-init : goal.loop-word-init
unfolding hex_words
loop-word-init c = nothing_put _ _ (omega (arith, c.requires.fits))

pub put_word-end-requires : goal.put_word-end-requires
put_word-end-requires c =
    next-word-room (words_of c.args.d) c.loop-word-test.true c.loop-word.invariant c.requires

pub loop-word-preserved : goal.loop-word-preserved
loop-word-preserved c = next-word-put (words_of c.args.d) c.loop-word-test.true c.loop-word.invariant c.put_word-end.ensures
