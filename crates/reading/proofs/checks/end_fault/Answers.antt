use Prim.Native.Nat.{ℕ}
use mathlib.Core.Path.{◌≡◌, refl, ap, ◌∙◌}
use mathlib.Core.Bool.{Bool, true, false, cond}
use borrow.Author.Tests.{ltb-true, ltb-false, le-leb, lt-leb}
use lib.Dec.{ltb, leb}
use Rattle.rules.specs.Reading.Judge.{Fault, end_fault, first, head_fault, need}
use Rattle.rules.specs.declared.Refusal.TheVariants.{TooFewRows}
use Rattle.reading.specs.View.{view}
use Rattle.reading.proofs.checks.end_fault.Goals as goal
use Rattle.std.specs.Prelude.{None, Some}

-- 18 where rows are left to come; the definition asks the other way round, whether as many are there as the size has.
rows-needed : (n count : ℕ) → ◌≡◌ {A = Fault} (cond (ltb n count) (Some TooFewRows) None) (need (leb count n) TooFewRows None)
unfolding need
rows-needed n count = by (ltb n count) refl
  where
    by : (t : Bool) → ltb n count ≡ t → ◌≡◌ {A = Fault} (cond t (Some TooFewRows) None) (need (leb count n) TooFewRows None)
    by true e = rw (lt-leb count n (ltb-true n count e))
    by false e = rw (le-leb count n (ltb-false n count e))

pub returns : goal.returns
unfolding end_fault
returns c =
    let s = c.before in
    c.by_rows.ensures ∙ ap (first (head_fault s.args.places (view s.args.st))) (rows-needed s.args.st.rows _)
