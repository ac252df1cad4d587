use Rattle.std.proofs.Common.{le-ltb, lt-ltb}
use Rattle.digest.specs.Hexadecimal.{hex_byte}
use Rattle.digest.proofs.text.hex_byte.Goals as goal

pub returns-then-n-lt10 : goal.returns-then-n-lt10
unfolding hex_byte
returns-then-n-lt10 c = rw (lt-ltb _ _ c.if-n-lt10.true)

pub returns : goal.returns
unfolding hex_byte
returns c = rw (le-ltb _ _ c.if-n-lt10.false)
