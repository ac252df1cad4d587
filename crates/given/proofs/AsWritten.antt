-- A line is answered as it was written, however great its numbers are: past its limit a row is one of no table, and a weight is past every D.
use Prim.Native.Nat.{ℕ, zero, suc, min, ◌≤◌, ◌<◌}
use mathlib.Core.Path.{◌≡◌, refl, sym, ap, ap₂, ◌∙◌}
use mathlib.Core.Bool.{Bool, true, false, cond}
use mathlib.Core.List.{List, [], ◌∷◌, map}
use native.Mathlib.Omega.{arith}
use borrow.Author.Tests.{leb-true, leb-false, ltb-true, ltb-false, lt-ltb, le-ltb}
use lib.Dec.{leb, ltb}
use lib.IntN.{ℤ, pos, negsuc, nat_abs}
use lib.Signed.{◌≤ℤ◌, lt_z}
use Rattle.rules.specs.Units.{row_limit, depths_of, raw_m}
use Rattle.rules.specs.Descriptions.{same, span, rows, could_be_read}
use Rattle.rules.specs.Reading.Numerals.{digits, spell, signed}
use Rattle.rules.specs.Looking.Interpolation.{den_of}
use Rattle.rules.specs.Looking.{used, judged_for, judged_all, codes_by, second_half}
use Rattle.rules.specs.Looking.Judging.{◌and_then◌, share_judged, each_judged, sum_judged, judged}
use Rattle.rules.specs.Demands.{Each, Weighable}
use Rattle.rules.specs.declared.Bits.{Bits}
use Rattle.rules.specs.declared.Colour.{Colour}
use Rattle.rules.specs.declared.Colour.TheVariants.{Red, Green, Blue}
use Rattle.rules.specs.declared.Depths.{Depths}
use Rattle.rules.specs.declared.Description.{Description}
use Rattle.rules.specs.declared.Kind.{Kind}
use Rattle.rules.specs.declared.Kind.TheVariants.{OneD, ThreeD}
use Rattle.rules.specs.declared.Share.{Share}
use Rattle.rules.specs.declared.Shares.{Shares}
use Rattle.rules.proofs.KnownDepths.{depths-bounds}
use Rattle.rules.proofs.Sound.{same_number, number_same, sound-of, sound-range, range-rows-most}
use Rattle.rules.proofs.Looking.Halves.{second-24, second-20, second-26, second-0}
use Rattle.rules.proofs.Looking.Judging.{is-fit, fit-not-negative, all-weighable}
use Rattle.rules.proofs.Looking.Spans.{span-most}
use Rattle.colour.specs.Adding.{carried}
use Rattle.colour.specs.Limits.{den_limit}
use Rattle.colour.proofs.Plans.{den-most}
use Rattle.colour.proofs.Weighing.{carried-is}
use Rattle.desk.specs.Arguments.{argument_of}
use Rattle.std.specs.Prelude.{Some, Ok, Err, None, Option}
use Rattle.desk.specs.declared.arguments.Unfit.TheVariants.{TooGreat}
use Rattle.given.specs.Written.{value_by, weight_by, weight_read, share_read, shares_read}
use Rattle.rules.specs.declared.Misfit.TheVariants.{NegativeWeight, RowBeyond, WrongSum}
use Rattle.rules.specs.Results.{Judged}

-- ---- one number

weight-kept : (z : ℤ) → nat_abs z ≤ den_limit → weight_read z ≡ z
weight-kept (pos n) h = ap pos (omega arith)
weight-kept (negsuc n) h = ap negsuc (omega arith)

size-read : (z : ℤ) → nat_abs (weight_read z) ≡ min (nat_abs z) (suc den_limit)
size-read (pos n) = refl
size-read (negsuc n) = omega arith

carried-read : (ss : List Share) → min (carried (map share_read ss)) (suc den_limit) ≡ min (carried ss) (suc den_limit)
carried-read [] = refl
carried-read (s ∷ ss) = omega (arith, size-read s.weight, carried-read ss)

same-both : (a b den : ℕ) → (a ≡ den → b ≡ den) → (b ≡ den → a ≡ den) → same (pos a) (pos den) ≡ same (pos b) (pos den)
same-both a b den there back = by (same (pos a) (pos den)) (same (pos b) (pos den)) refl refl
  where
    is : (x : ℕ) → same (pos x) (pos den) ≡ true → x ≡ den
    is x e = ap nat_abs (same_number (pos x) (pos den) e)

    so : (x : ℕ) → x ≡ den → same (pos x) (pos den) ≡ true
    so x e = number_same (pos x) (pos den) (ap pos e)

    by : (t u : Bool) → same (pos a) (pos den) ≡ t → same (pos b) (pos den) ≡ u → same (pos a) (pos den) ≡ same (pos b) (pos den)
    by true u e f = e ∙ sym (so b (there (is a e)))
    by false true e f = so a (back (is b f)) ∙ sym f
    by false false e f = e ∙ sym f

-- as digits it is read as it is, up to its limit

small-kept : (negative : Bool) (n : ℕ) → n ≤ den_limit → signed negative n ≡ weight_read (signed negative n)
small-kept false n h = ap pos (omega arith)
small-kept true zero h = refl
small-kept true (suc n) h = ap negsuc (omega arith)

great-capped : (negative : Bool) (n : ℕ) → den_limit < n → signed negative (suc den_limit) ≡ weight_read (signed negative n)
great-capped false n h = ap pos (omega arith)
great-capped true zero h = absurd (omega arith)
great-capped true (suc n) h = ap negsuc (omega arith)

module _ (text : List ℕ) (d : digits text ≡ true) where
  pub value_read : (most : ℕ) → value_by most (argument_of most text) ≡ Some (min (spell 0 text) (suc most))
  unfolding argument_of
  value_read most = rw d (by (leb (spell 0 text) most) refl)
    where
      by : (t : Bool) → leb (spell 0 text) most ≡ t → value_by most (cond t (Ok (spell 0 text)) (Err TooGreat)) ≡ Some (min (spell 0 text) (suc most))
      by true e = ap Some (omega (arith, leb-true (spell 0 text) most e))
      by false e = ap Some (omega (arith, leb-false (spell 0 text) most e))

  pub weight-read : (negative : Bool) → weight_by negative (argument_of den_limit text) ≡ Some (weight_read (signed negative (spell 0 text)))
  unfolding argument_of
  weight-read negative = rw d (by (leb (spell 0 text) den_limit) refl)
    where
      by : (t : Bool) → leb (spell 0 text) den_limit ≡ t → weight_by negative (cond t (Ok (spell 0 text)) (Err TooGreat)) ≡ Some (weight_read (signed negative (spell 0 text)))
      by true e = ap Some (small-kept negative (spell 0 text) (leb-true _ _ e))
      by false e = ap Some (great-capped negative (spell 0 text) (leb-false _ _ e))

-- ---- what is found of each row and weight

same-below : (a b n : ℕ) → (a < n → b < n) → (n ≤ a → n ≤ b) → ltb b n ≡ ltb a n
same-below a b n below above = by (ltb a n) refl
  where
    by : (t : Bool) → ltb a n ≡ t → ltb b n ≡ t
    by true e = lt-ltb b n (below (ltb-true a n e))
    by false e = le-ltb b n (above (ltb-false a n e))

same_sign : (z : ℤ) → lt_z (weight_read z) (pos 0) ≡ lt_z z (pos 0)
same_sign (pos n) = same-below n (min n (suc den_limit)) 0 (λ h. omega arith) (λ h. omega arith)
same_sign (negsuc n) = refl

module _ (count : ℕ) where
  module _ (few : count ≤ row_limit) where
    each_same : (ss : List Share) → each_judged count (map share_read ss) ≡ each_judged count ss
    unfolding each_judged share_judged
    each_same [] = refl
    each_same (s ∷ ss) =
        rw (same-below s.row (min s.row row_limit) count (λ h. omega arith) (λ h. omega arith), same_sign s.weight, each_same ss)

    -- ---- and of their sum: both sums are the D, or neither

    module _ (den : ℕ) (low : den ≤ den_limit) where
      sum_same : (ss : List Share) → Each (λ s. pos 0 ≤ℤ s.weight) ss → Each (λ s. pos 0 ≤ℤ s.weight) (map share_read ss) → sum_judged den (map share_read ss) ≡ sum_judged den ss
      unfolding sum_judged
      sum_same ss w r =
          rw (carried-is ss w, carried-is (map share_read ss) r)
          (ap (λ t. cond t (Ok tt) (Err WrongSum)) (same-both (carried (map share_read ss)) (carried ss) den (λ e. omega (arith, carried-read ss)) (λ e. omega (arith, carried-read ss))))

      pub judged-same : (ss : List Share) → judged count den (map share_read ss) ≡ judged count den ss
      judged-same ss = ap (λ j. j and_then sum_judged den (map share_read ss)) (each_same ss) ∙ by (each_judged count ss) refl
        where
          by : (j : Judged) → each_judged count ss ≡ j → j and_then sum_judged den (map share_read ss) ≡ j and_then sum_judged den ss
          by (Ok _) e = sum_same ss (fit-not-negative count ss e) (fit-not-negative count (map share_read ss) (each_same ss ∙ e))
          by (Err RowBeyond) e = refl
          by (Err NegativeWeight) e = refl
          by (Err WrongSum) e = refl

      -- what may be weighed is read as it is
      pub weighable-kept : (ss : List Share) → Weighable count den ss → map share_read ss ≡ ss
      weighable-kept ss w =
          all ss w.in_table (omega (arith, low, ap nat_abs (sym (carried-is ss w.not_negative) ∙ w.add_up)))
        where
          all : (ss : List Share) → Each (λ s. s.row < count) ss → carried ss ≤ den_limit → map share_read ss ≡ ss
          all [] r h = refl
          all (s ∷ ss) r h =
              let row : min s.row row_limit ≡ s.row = omega (arith, r.0) in
              ap₂ (λ x xs. x ∷ xs) (ap₂ (λ a b. record { row = a; weight = b }) row (weight-kept s.weight (omega (arith, h)))) (all ss r.1 (omega (arith, h)))

-- ---- of a line

used-read : (k : Kind) (c : Colour) (shares : Shares) → used k c (shares_read shares) ≡ map share_read (used k c shares)
used-read OneD Red shares = refl
used-read OneD Green shares = refl
used-read OneD Blue shares = refl
used-read ThreeD c shares = refl

module _ (d : Description) (table : List ℤ) (could : could_be_read d table ≡ true) (shares : Shares) (m : ℕ) (most : m ≤ 65535) where
  few-rows : rows d ≤ row_limit
  few-rows = range-rows-most d.kind d.n (sound-range d table (sound-of d table could))

  low-den : (c : Colour) → den_of d m c ≤ den_limit
  low-den c = den-most m (span d c) most (span-most d (sound-of d table could) c)

  for-same : (c : Colour) → judged_for d m (shares_read shares) c ≡ judged_for d m shares c
  for-same c =
      ap (judged (rows d) (den_of d m c)) (used-read d.kind c shares) ∙ judged-same (rows d) few-rows (den_of d m c) (low-den c) (used d.kind c shares)

  -- the same is found of it
  pub found-as-written : judged_all d m (shares_read shares) ≡ judged_all d m shares
  unfolding judged_all
  found-as-written = ap₂ (λ a b. a and_then b) (for-same Red) (ap₂ (λ a b. a and_then b) (for-same Green) (for-same Blue))

  used-kept : judged_all d m shares ≡ (Ok tt) → (c : Colour) → used d.kind c (shares_read shares) ≡ used d.kind c shares
  used-kept fit c =
      used-read d.kind c shares ∙ weighable-kept (rows d) few-rows (den_of d m c) (low-den c) (used d.kind c shares) (all-weighable d m shares fit c)

-- and the answer is the same
module _ (d : Description) (table : List ℤ) (bits : Bits) (shares : Shares) where
  module _ (could : could_be_read d table ≡ true) (depths : Depths) (known : depths_of bits ≡ Some depths) where
    most : raw_m depths ≤ 65535
    most = (depths-bounds bits depths known).0.1

    found : judged_all d (raw_m depths) (shares_read shares) ≡ judged_all d (raw_m depths) shares
    found = found-as-written d table could shares (raw_m depths) most

    codes-kept : judged_all d (raw_m depths) shares ≡ (Ok tt) → codes_by d table depths (shares_read shares) ≡ codes_by d table depths shares
    codes-kept fit = let kept = used-kept d table could shares (raw_m depths) most fit in rw (kept Red, kept Green, kept Blue)

    second-found : second_half d table bits (shares_read shares) ≡ second_half d table bits shares
    second-found = by (is-fit (judged_all d (raw_m depths) shares))
      where
        by : Dec (judged_all d (raw_m depths) shares ≡ (Ok tt)) → second_half d table bits (shares_read shares) ≡ second_half d table bits shares
        by (yes e) =
            second-0 d table bits (shares_read shares) depths could known (found ∙ e) ∙ ap Ok (codes-kept e)
            ∙ sym (second-0 d table bits shares depths could known e)
        by (no w) =
            second-26 d table bits (shares_read shares) depths could known (λ f. w (sym found ∙ f)) ∙ sym (second-26 d table bits shares depths could known w)

  pub second-as-written : second_half d table bits (shares_read shares) ≡ second_half d table bits shares
  second-as-written = by-24 (could_be_read d table) refl
    where
      by-20 : (x : Option Depths) → could_be_read d table ≡ true → depths_of bits ≡ x → second_half d table bits (shares_read shares) ≡ second_half d table bits shares
      by-20 None e u = second-20 d table bits (shares_read shares) e u ∙ sym (second-20 d table bits shares e u)
      by-20 (Some depths) e k = second-found e depths k

      by-24 : (b : Bool) → could_be_read d table ≡ b → second_half d table bits (shares_read shares) ≡ second_half d table bits shares
      by-24 true e = by-20 (depths_of bits) e refl
      by-24 false e = second-24 d table bits (shares_read shares) e ∙ sym (second-24 d table bits shares e)
