-- A colour's rows and weights as the code keeps them, and how they are judged.
use Prim.Native.Nat.{ℕ, suc, min, ◌+◌, ◌≤◌, ◌<◌}
use mathlib.Core.Path.{◌≡◌, refl, ap, ap₂, sym, ◌∙◌}
use mathlib.Core.Bool.{Bool, true, false, cond}
use borrow.Author.Tests.{lt-ltb, le-ltb}
use lib.IntN.{pos, nat_abs}
use lib.Signed.{lt_z, ◌≤ℤ◌}
use native.Mathlib.Omega.{arith}
use Rattle.whole.specs.Integers.{up}
use Rattle.whole.proofs.Halves as H
use Rattle.whole.proofs.Held.{true-by, false-by}
use Rattle.rules.specs.Descriptions.{same}
use Rattle.rules.specs.Looking.{used}
use Rattle.rules.specs.Looking.Interpolation.{share}
use Rattle.rules.specs.Looking.Judging.{◌and_then◌, share_judged, each_judged, sum_of, sum_judged, judged}
use Rattle.rules.specs.declared.Colour.{Colour}
use Rattle.rules.specs.declared.Colour.TheVariants.{Red, Green, Blue}
use Rattle.rules.specs.declared.Kind.{Kind}
use Rattle.rules.specs.declared.Kind.TheVariants.{OneD, ThreeD}
use Rattle.rules.specs.declared.Share.{Share}
use Rattle.rules.specs.declared.Shares.{Shares}
use Rattle.rules.proofs.Sound.{same_number, number_same}
use Rattle.colour.specs.Adding.{carried}
use Rattle.colour.proofs.Weighing.{carried-is}
use Rattle.halves.specs.Listed.{listed, four_of, NotNegative}
use Rattle.halves.specs.declared.fours.Four.{Four}
use Rattle.std.specs.Prelude.{Err, None, Ok, Option, Some, ok_or}
use Rattle.rules.specs.declared.Misfit.{Misfit}
use Rattle.rules.specs.declared.Misfit.TheVariants.{NegativeWeight, RowBeyond, WrongSum}
use Rattle.rules.specs.Results.{Judged}

-- ---- by the kind and the colour

pub four-for : {k kind : Kind} {x c : Colour} (shares : Shares) → kind ≡ k → c ≡ x → four_of k x shares ≡ four_of kind c shares
four-for shares e f = ap₂ (λ a b. four_of a b shares) (sym e) (sym f)

-- ---- one row and weight

module _ (count : ℕ) (s : Share) where
  pub row-beyond : count ≤ s.row → share_judged count s ≡ (Err RowBeyond)
  unfolding share_judged
  row-beyond h = rw (le-ltb s.row count h)

  -- the row is below the count
  pub row_below : s.row < count → (t : Bool) → lt_z s.weight (pos 0) ≡ t → share_judged count s ≡ cond t (Err NegativeWeight) (Ok tt)
  unfolding share_judged
  row_below h t e = rw (lt-ltb s.row count h, e)

-- one that carries nothing is fit, and changes no judgement
idle-fit : (count : ℕ) → 0 < count → share_judged count (share 0 0) ≡ (Ok tt)
idle-fit count h = row_below count (share 0 0) h false refl

pub four_same : (count den : ℕ) → 0 < count → (k : Kind) (c : Colour) (shares : Shares) → judged count den (four_of k c shares) ≡ judged count den (used k c shares)
unfolding each_judged sum_judged
four_same count den h ThreeD c shares = refl
four_same count den h OneD Red shares = rw (idle-fit count h)
four_same count den h OneD Green shares = rw (idle-fit count h)
four_same count den h OneD Blue shares = rw (idle-fit count h)

-- what is wrong is found first, and what is fit leaves what comes after it
pub wrong-then : (j next : Judged) {e : Misfit} → j ≡ Err e → j and_then next ≡ Err e
wrong-then (Ok _) next q = cc
wrong-then (Err RowBeyond) next q = q
wrong-then (Err NegativeWeight) next q = q
wrong-then (Err WrongSum) next q = q

pub fit-then : (j next : Judged) {u : Unit {0}} → j ≡ Ok u → j and_then next ≡ next
fit-then (Ok _) next q = refl
fit-then (Err _) next q = cc

-- the last needs nothing after it
pub last_then : (j : Judged) → j and_then (Ok tt) ≡ j
last_then (Ok _) = refl
last_then (Err RowBeyond) = refl
last_then (Err NegativeWeight) = refl
last_then (Err WrongSum) = refl

-- what is absent is refused for the reason that is given
pub only-reason : {A E : Type 0} (o : Option A) {given found : E} → Err found ≡ ok_or o given → found ≡ given
only-reason None q = cc
only-reason (Some _) q = cc

-- ---- the sum

-- weights that are not negative; one above D counts as D + 1
module _ (den : ℕ) (f : Four) (h : NotNegative (listed f)) where
  abbrev part : Share → ℕ
  part s = min (suc den) (up s.weight)

  abbrev pub parts : ℕ
  parts = part f.first + part f.second + part f.third + part f.fourth

  size : (s : Share) → pos 0 ≤ℤ s.weight → up s.weight ≡ nat_abs s.weight
  size s k = omega (arith, H.le k, H.split s.weight)

  parts-carried : parts ≡ den → carried (listed f) ≡ den
  parts-carried e = omega (arith, e, size f.first h.0, size f.second h.1.0, size f.third h.1.1.0, size f.fourth h.1.1.1.0)

  carried-parts : carried (listed f) ≡ den → parts ≡ den
  carried-parts e = omega (arith, e, size f.first h.0, size f.second h.1.0, size f.third h.1.1.0, size f.fourth h.1.1.1.0)

  pub sum-fit : parts ≡ den → sum_judged den (listed f) ≡ (Ok tt)
  unfolding sum_judged
  sum-fit e = ap (λ t. cond t (Ok tt) (Err WrongSum)) (number_same (sum_of (listed f)) (pos den) (carried-is (listed f) h ∙ ap pos (parts-carried e)))

  pub sum-wrong : (parts ≡ den → ⊥) → sum_judged den (listed f) ≡ (Err WrongSum)
  unfolding sum_judged
  sum-wrong n = ap (λ t. cond t (Ok tt) (Err WrongSum)) (false-by (same (sum_of (listed f)) (pos den)) (λ t. n (carried-parts (adds (true-by _ t)))))
    where
      adds : same (sum_of (listed f)) (pos den) ≡ true → carried (listed f) ≡ den
      adds e = ap nat_abs (sym (carried-is (listed f) h) ∙ same_number (sum_of (listed f)) (pos den) e)
