use mathlib.Core.Path.{sym, ◌∙◌}
use Rattle.scan.specs.Kinds.{kind_of}
use Rattle.scan.proofs.Runs.{run_more, run-over, run-stop}
use native.Mathlib.Omega.{arith}
use Rattle.scan.proofs.run_end.Goals as goal

pub returns-then-not-is_kind : goal.returns-then-not-is_kind
returns-then-not-is_kind c =
    let l = c.before.before.before.before in
    let a = l.before.before.args in
    record { ends = sym (l.loop-i.invariant.1 ∙ run-stop (kind_of a.k) a.s.now l.loop-i.i (omega arith) (sym c.before.is_kind.ensures ∙ c.if-not-is_kind.true)); within = omega arith }

pub loop-i-preserved : goal.loop-i-preserved
loop-i-preserved c =
    let l = c.before.before.before.before in
    let a = l.before.before.args in
    (omega arith, l.loop-i.invariant.1 ∙ run_more (kind_of a.k) a.s.now l.loop-i.i (omega arith) (sym c.before.is_kind.ensures ∙ c.if-not-is_kind.false))

pub returns : goal.returns
returns c =
    let a = c.before.before.before.args in
    record { ends = sym (c.before.loop-i.invariant.1 ∙ run-over (kind_of a.k) a.s.now _ (omega arith)); within = omega arith }
