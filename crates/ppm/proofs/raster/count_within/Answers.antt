use Prim.Native.Nat.{ℕ}
use mathlib.Core.Path.{◌≡◌, sym, ◌∙◌}
use mathlib.Core.Bool.{Bool}
use borrow.Author.Tests.{lt-leb, le-leb}
use lib.Dec.{leb}
use lib.ListN.{length}
use Rattle.scan.proofs.Runs.{run_more, run-over, run-stop}
use native.Mathlib.Omega.{arith}
use Rattle.ppm.proofs.raster.count_within.Goals as goal

-- The run's length is what the scan has passed and the run from there, as for bytes of a kind.
-- a code that is at most m
abbrev within : ℕ → ℕ → Bool
within m c = leb c m

pub returns-then-code-m : goal.returns-then-code-m
returns-then-code-m c =
    let a = c.args in
    record { counts = sym (c.loop-i.invariant ∙ run-stop (within a.m) a.codes.now c.loop-i.i (omega arith) (lt-leb _ _ c.if-code-m.true)); within = omega arith }

pub loop-i-preserved : goal.loop-i-preserved
loop-i-preserved c =
    let a = c.args in
    c.loop-i.invariant ∙ run_more (within a.m) a.codes.now c.loop-i.i (omega arith) (le-leb _ _ c.if-code-m.false)

pub returns : goal.returns
returns c =
    let a = c.args in
    let over : c.loop-i.i ≡ length a.codes.now = omega arith in
    record { counts = sym (c.loop-i.invariant ∙ run-over (within a.m) a.codes.now _ (omega arith) ∙ over); within = omega arith }
