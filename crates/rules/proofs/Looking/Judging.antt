-- What 26 asks, as a property: rows and weights are fit exactly if they may be weighed, and whatever else is found of them is so.
use Prim.Native.Nat.{ℕ, ◌≤◌, ◌<◌}
use mathlib.Core.Path.{◌≡◌, refl, sym, ap, subst, ◌∙◌}
use mathlib.Core.Bool.{Bool, true, false, cond}
use mathlib.Core.List.{List, [], ◌∷◌}
use borrow.Author.Tests.{ltb-true, ltb-false, lt-ltb}
use lib.Dec.{ltb}
use lib.IntN.{ℤ, pos, ◌+ℤ◌}
use lib.Signed.{◌≤ℤ◌, ◌<ℤ◌, lt_z, lt_z_yes, lt_z_no, clash_ℤ, yes_non_neg}
use native.Mathlib.Omega.{arith}
use Rattle.whole.specs.Nearest.{weights, Unsigned}
use Rattle.whole.proofs.Held.{passed, failed, false-by}
use Rattle.rules.specs.Descriptions.{same, rows}
use Rattle.rules.specs.Looking.Interpolation.{den_of, weighed}
use Rattle.rules.specs.Looking.{used, judged_for, judged_all}
use Rattle.rules.specs.Looking.Judging.{◌and_then◌, share_judged, each_judged, sum_of, sum_judged, judged}
use Rattle.rules.specs.Demands.{Each, Weighable, Any, here, there, Unfit, row, weight, sum}
use Rattle.rules.specs.declared.Colour.{Colour}
use Rattle.rules.specs.declared.Colour.TheVariants.{Red, Green, Blue}
use Rattle.rules.specs.declared.Description.{Description}
use Rattle.rules.specs.declared.Share.{Share}
use Rattle.rules.specs.declared.Shares.{Shares}
use Rattle.rules.proofs.Sound.{same_number, number_same}
use Rattle.rules.proofs.Tests.{no_true}
use Rattle.std.specs.Prelude.{Err, Ok}
use Rattle.rules.specs.declared.Misfit.TheVariants.{NegativeWeight, RowBeyond, WrongSum}
use Rattle.rules.specs.Results.{Judged}

-- ---- fit or not

-- none of the three other findings is fit
pub is-fit : (j : Judged) → Dec (j ≡ (Ok tt))
is-fit (Ok _) = yes refl
is-fit (Err RowBeyond) = no (λ e. let z : ◌≡◌ {A = ℕ} 0 1 = cc in omega arith)
is-fit (Err NegativeWeight) = no (λ e. let z : ◌≡◌ {A = ℕ} 0 1 = cc in omega arith)
is-fit (Err WrongSum) = no (λ e. let z : ◌≡◌ {A = ℕ} 0 1 = cc in omega arith)

-- ---- one after the other

pub both-fit : (a b : Judged) → a and_then b ≡ (Ok tt) → (a ≡ (Ok tt)) × (b ≡ (Ok tt))
both-fit (Ok _) b e = (refl, e)
both-fit (Err RowBeyond) b e = (e, cc)
both-fit (Err NegativeWeight) b e = (e, cc)
both-fit (Err WrongSum) b e = (e, cc)

pub fit-both : (a b : Judged) → a ≡ (Ok tt) → b ≡ (Ok tt) → a and_then b ≡ (Ok tt)
fit-both a b p q = rw p q

-- ---- what is found is so

module _ (count : ℕ) where
  -- of the rows, and of the weights one by one
  abbrev Found : List Share → Judged → Type 0
  Found ss (Ok _) = Each (λ s. s.row < count) ss × Each (λ s. pos 0 ≤ℤ s.weight) ss
  Found ss (Err RowBeyond) = Any (λ s. count ≤ s.row) ss
  Found ss (Err NegativeWeight) = Any (λ s. s.weight <ℤ pos 0) ss
  Found ss (Err WrongSum) = ⊥

  -- with a share in front that is fit
  later : (s : Share) (ss : List Share) → s.row < count → pos 0 ≤ℤ s.weight → (j : Judged) → Found ss j → Found (s ∷ ss) j
  later s ss r w (Ok _) f = ((r, f.0), (w, f.1))
  later s ss r w (Err RowBeyond) f = there f
  later s ss r w (Err NegativeWeight) f = there f
  later s ss r w (Err WrongSum) f = f

  one_found : (s : Share) (ss : List Share) (j : Judged) → Found ss j → Found (s ∷ ss) (share_judged count s and_then j)
  unfolding share_judged
  one_found s ss j f = by (ltb s.row count) refl
    where
      signed : (t : Bool) → s.row < count → lt_z s.weight (pos 0) ≡ t → Found (s ∷ ss) (cond t (Err NegativeWeight) (Ok tt) and_then j)
      signed true r e = here (lt_z_yes (passed _ e))
      signed false r e = later s ss r (lt_z_no (failed _ e)) j f

      by : (t : Bool) → ltb s.row count ≡ t → Found (s ∷ ss) (cond t (cond (lt_z s.weight (pos 0)) (Err NegativeWeight) (Ok tt)) (Err RowBeyond) and_then j)
      by true e = signed (lt_z s.weight (pos 0)) (ltb-true _ _ e) refl
      by false e = here (ltb-false _ _ e)

  each-found : (ss : List Share) → Found ss (each_judged count ss)
  unfolding each_judged
  each-found [] = (tt, tt)
  each-found (s ∷ ss) = one_found s ss (each_judged count ss) (each-found ss)

  -- weights found fit one by one are not negative
  pub fit-not-negative : (ss : List Share) → each_judged count ss ≡ (Ok tt) → Each (λ s. pos 0 ≤ℤ s.weight) ss
  fit-not-negative ss e = (subst (Found ss) e (each-found ss)).1

  module _ (den : ℕ) (ss : List Share) where
    -- of all of it: that it may be weighed, or one of the three conditions
    abbrev pub Says : Judged → Type 0
    Says (Ok _) = Weighable count den ss
    Says (Err RowBeyond) = Any (λ s. count ≤ s.row) ss
    Says (Err NegativeWeight) = Any (λ s. s.weight <ℤ pos 0) ss
    Says (Err WrongSum) = sum_of ss ≡ pos den → ⊥

    sum-found : Each (λ s. s.row < count) ss → Each (λ s. pos 0 ≤ℤ s.weight) ss → Says (sum_judged den ss)
    unfolding sum_judged
    sum-found r w = by (same (sum_of ss) (pos den)) refl
      where
        by : (t : Bool) → same (sum_of ss) (pos den) ≡ t → Says (cond t (Ok tt) (Err WrongSum))
        by true e = record { in_table = r; not_negative = w; add_up = same_number (sum_of ss) (pos den) e }
        by false e = λ h. no_true (sym (number_same (sum_of ss) (pos den) h) ∙ e)

    pub judged-says : Says (judged count den ss)
    judged-says = by (each_judged count ss) (each-found ss)
      where
        by : (j : Judged) → Found ss j → Says (j and_then sum_judged den ss)
        by (Ok _) f = sum-found f.0 f.1
        by (Err RowBeyond) f = f
        by (Err NegativeWeight) f = f
        by (Err WrongSum) f = absurd f

    -- ---- and back

    pub fit-weighable : judged count den ss ≡ (Ok tt) → Weighable count den ss
    fit-weighable e = rw e at judged-says

  each-fit : (ss : List Share) → Each (λ s. s.row < count) ss → Each (λ s. pos 0 ≤ℤ s.weight) ss → each_judged count ss ≡ (Ok tt)
  unfolding each_judged share_judged
  each-fit [] r w = refl
  each-fit (s ∷ ss) r w =
      rw (lt-ltb s.row count r.0, false-by (lt_z s.weight (pos 0)) (λ t. clash_ℤ (lt_z_yes t) w.0)) (each-fit ss r.1 w.1)

  module _ (den : ℕ) (ss : List Share) where
    pub weighable-fit : Weighable count den ss → judged count den ss ≡ (Ok tt)
    unfolding sum_judged
    weighable-fit w =
        fit-both (each_judged count ss) (sum_judged den ss) (each-fit ss w.in_table w.not_negative)
        (ap (λ t. cond t (Ok tt) (Err WrongSum)) (number_same (sum_of ss) (pos den) w.add_up))

    -- not fit exactly if one of document 02's three conditions holds
    pub not-fit-unfit : (judged count den ss ≡ (Ok tt) → ⊥) → Unfit count den ss
    not-fit-unfit h = by (judged count den ss) h (judged-says den ss)
      where
        by : (j : Judged) → (j ≡ (Ok tt) → ⊥) → Says den ss j → Unfit count den ss
        by (Ok _) h f = absurd (h refl)
        by (Err RowBeyond) h f = row f
        by (Err NegativeWeight) h f = weight f
        by (Err WrongSum) h f = sum f

    pub unfit-not-fit : Unfit count den ss → judged count den ss ≡ (Ok tt) → ⊥
    unfit-not-fit u e = by u (fit-weighable den ss e)
      where
        no_row : (ss : List Share) → Any (λ s. count ≤ s.row) ss → Each (λ s. s.row < count) ss → ⊥
        no_row [] p r = elim p [ ]
        no_row (s ∷ ss) (here p) r = omega (arith, p, r.0)
        no_row (s ∷ ss) (there p) r = no_row ss p r.1

        no-weight : (ss : List Share) → Any (λ s. s.weight <ℤ pos 0) ss → Each (λ s. pos 0 ≤ℤ s.weight) ss → ⊥
        no-weight [] p w = elim p [ ]
        no-weight (s ∷ ss) (here p) w = clash_ℤ p w.0
        no-weight (s ∷ ss) (there p) w = no-weight ss p w.1

        by : Unfit count den ss → Weighable count den ss → ⊥
        by (row p) w = no_row ss p w.in_table
        by (weight p) w = no-weight ss p w.not_negative
        by (sum p) w = p w.add_up

-- ---- of all three colours

module _ (d : Description) (m : ℕ) (shares : Shares) where
  pub all-weighable : judged_all d m shares ≡ (Ok tt) → (c : Colour) → Weighable (rows d) (den_of d m c) (used d.kind c shares)
  unfolding judged_all
  all-weighable e c = fit-weighable (rows d) (den_of d m c) (used d.kind c shares) (each c)
    where
      one : (judged_for d m shares Red ≡ (Ok tt)) × (judged_for d m shares Green and_then judged_for d m shares Blue ≡ (Ok tt))
      one = both-fit (judged_for d m shares Red) (judged_for d m shares Green and_then judged_for d m shares Blue) e

      two : (judged_for d m shares Green ≡ (Ok tt)) × (judged_for d m shares Blue ≡ (Ok tt))
      two = both-fit (judged_for d m shares Green) (judged_for d m shares Blue) one.1

      each : (c : Colour) → judged_for d m shares c ≡ (Ok tt)
      each Red = one.0
      each Green = two.0
      each Blue = two.1

  pub weighable-all : ((c : Colour) → Weighable (rows d) (den_of d m c) (used d.kind c shares)) → judged_all d m shares ≡ (Ok tt)
  unfolding judged_all
  weighable-all w =
      fit-both (judged_for d m shares Red) (judged_for d m shares Green and_then judged_for d m shares Blue) (fit Red)
      (fit-both (judged_for d m shares Green) (judged_for d m shares Blue) (fit Green) (fit Blue))
    where
      fit : (c : Colour) → judged_for d m shares c ≡ (Ok tt)
      fit c = weighable-fit (rows d) (den_of d m c) (used d.kind c shares) (w c)

-- ---- as a weighed sum reads them

module _ (table : List ℤ) (c : Colour) where
  pub weights-sum : (ss : List Share) → weights (weighed table c ss) ≡ sum_of ss
  weights-sum [] = refl
  weights-sum (s ∷ ss) = ap (λ z. s.weight +ℤ z) (weights-sum ss)

  pub not-negative-unsigned : (ss : List Share) → Each (λ s. pos 0 ≤ℤ s.weight) ss → Unsigned (weighed table c ss)
  not-negative-unsigned [] w = tt
  not-negative-unsigned (s ∷ ss) w = (yes_non_neg w.0, not-negative-unsigned ss w.1)
