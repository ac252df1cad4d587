use mathlib.Core.Path.{sym, ap, ◌∙◌}
use native.Mathlib.Omega.{arith}
use borrow.Author.Tests.{lt-ltb, le-ltb}
use lib.Dec.{eqb}
use lib.ListN.{length}
use Rattle.rules.specs.Reading.Lines.{digit, run}
use Rattle.rules.specs.Reading.Numerals.{digits}
use Rattle.scan.proofs.Runs.{every-run, run-there}
use Rattle.numbers.proofs.is_digits.Goals as goal

pub returns-else-n-ne0 : goal.returns-else-n-ne0
unfolding digits
returns-else-n-ne0 c =
    let w = c.args.w.now in
    rw (c.if-n-ne0.false, run-there digit w, le-ltb 0 (length (run digit w)) (omega (arith, c.run_length-n.ensures.counts)))

pub returns-then-n-ne0 : goal.returns-then-n-ne0
unfolding digits
returns-then-n-ne0 c =
    let w = c.args.w.now in
    rw (run-there digit w, lt-ltb 0 (length (run digit w)) (omega (arith, c.run_length-n.ensures.counts)))
    (ap (λ n. eqb n (length w)) c.run_length-n.ensures.counts ∙ sym (every-run digit w))
