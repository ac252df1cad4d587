use native.Mathlib.Omega.{arith}
use Rattle.lettering.proofs.Texts.{one_more}
use Rattle.lettering.proofs.put_bytes.Goals as goal

pub loop-i-preserved : goal.loop-i-preserved
loop-i-preserved c = one_more c.loop-i.invariant c.requires (omega arith)
