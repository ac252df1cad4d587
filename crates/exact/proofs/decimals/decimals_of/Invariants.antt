use Rattle.exact.proofs.Dividing.{Dividing}
use Rattle.exact.proofs.decimals.decimals_of.Given as goal

-- The invariant: the digits are those of the quotient so far, and what is left is its rest.
abbrev pub invariant-loop-count : goal.invariant-loop-count
invariant-loop-count l = Dividing l.rest l.unit l.most l.left l.digits l.count
