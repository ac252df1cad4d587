use Rattle.whole.specs.Integers.{up, dn}
use Rattle.judge.proofs.Spans.{Spanned}
use Rattle.judge.proofs.each_fits.Given as goal

-- The invariant: the least and the greatest number so far decide whether all that are passed fit.
abbrev pub invariant-loop-sample : goal.invariant-loop-sample
invariant-loop-sample l = Spanned l.samples l.sample-index (dn l.least.0) (up l.greatest.0)
