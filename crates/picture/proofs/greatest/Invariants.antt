use Rattle.picture.proofs.Maxima.{StandsFor}
use Rattle.picture.proofs.greatest.Given as goal

-- The invariant: all codes are at most m exactly if the greatest of those passed is, and all those to come are.
abbrev pub invariant-loop-code : goal.invariant-loop-code
invariant-loop-code l = StandsFor l.codes l.code-index l.most
