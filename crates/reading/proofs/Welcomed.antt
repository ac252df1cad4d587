-- A line that the judge lets pass gives what the state can take in: its numbers are within their limits by its own
-- property, and a row has room where the checks of a data line found no fault.
use Prim.Native.Nat.{ℕ, ◌≤◌}
use mathlib.Core.Path.{◌≡◌, ap, sym, ◌∙◌}
use mathlib.Core.List.{List}
use native.Mathlib.Omega.{arith}
use borrow.Author.Tests.{leb-true, ltb-true}
use lib.ListN.{length}
use Rattle.rules.specs.Descriptions.{rows}
use Rattle.rules.specs.Reading.Lines.{line_limit}
use Rattle.rules.specs.Reading.Grammar.{BoundsLine, Line}
use Rattle.rules.specs.Reading.Contents.{form_of, content_of}
use Rattle.rules.specs.Reading.Judge.{byte_fault, describe, order_fault, State}
use Rattle.rules.specs.declared.Bounds.{Bounds}
use Rattle.rules.specs.declared.Form.TheVariants.{Data}
use Rattle.rules.specs.declared.Item.{Item}
use Rattle.rules.specs.declared.Item.TheVariants.{Nothing, OfTitle, OfLower, OfUpper, OfSize, OfRow}
use Rattle.rules.specs.declared.Keyword.{Keyword}
use Rattle.rules.proofs.Reading.OneLine.{find, found}
use Rattle.rules.proofs.Reading.Order.{form_for}
use Rattle.rules.proofs.Sound.{range-rows-most}
use Rattle.rules.proofs.Tests.{need-none, first-none}
use Rattle.reading.specs.Within.{BoundsWithin}
use Rattle.reading.specs.View.{Fit, RowsWelcome, Welcome, size_of}
use Rattle.reading.proofs.Sized.{head-sized, head-in-range, rows-described}
use Rattle.std.specs.Prelude.{None, Ok}

-- the three numbers of a bounds line are within ±10
line-within : {k : Keyword} {l : List ℕ} {b : Bounds} → BoundsLine k l b → BoundsWithin b
line-within h = let n = h.numbers in (n.red.within, n.green.within, n.blue.within)

-- a data line with no fault in its place: there is a size, and the rows so far are fewer than it has
row-welcome : (places : ℕ) {st : State} → Fit st → order_fault places st Data ≡ None → RowsWelcome st 1
unfolding order_fault
row-welcome places {st} f h =
    let (head, count) = first-none _ _ h in
    let s = size_of st in
    let fewer = ltb-true st.rows (rows (describe st)) (need-none _ _ _ count).0 in
    record {
      sized_so = λ _. head-sized f places head;
      room = omega (arith, fewer, rows-described st, range-rows-most s.kind s.n (head-in-range f places head));
    }

-- a line whose bytes pass is short
pub short-line : (l : List ℕ) → byte_fault l ≡ None → length l ≤ line_limit
unfolding byte_fault
short-line l h = leb-true (length l) line_limit (need-none _ _ _ h).0

pub welcomed : (places p : ℕ) (l : List ℕ) (i : Item) {st : State} → byte_fault l ≡ None → order_fault places st (form_of l) ≡ None → content_of p l ≡ Ok i → Fit st
    → Welcome st i
welcomed places p l i {st} b o c f = by i (find p l i b c) (sym (ap (order_fault places st) (found p l i (find p l i b c)).form) ∙ o)
  where
    by : (j : Item) → Line p l j → order_fault places st (form_for j) ≡ None → Welcome st j
    by Nothing h a = tt
    by (OfTitle t) h a = tt
    by (OfLower lower) h a = line-within h.gives
    by (OfUpper upper) h a = line-within h.gives
    by (OfSize s) h a = h.gives.range
    by (OfRow r) h a = row-welcome places f a
