-- What writing leaves is printed.
use Rattle.rewrite.proofs.Rewritten.{printable}
use Rattle.rewrite.proofs.write_anew.Goals as goal

pub print-requires : goal.print-requires
print-requires c = printable c.write-answer.result c.write-answer.ensures
