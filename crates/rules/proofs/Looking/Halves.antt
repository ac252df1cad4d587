-- The answers of the two halves of a look by their cases, in the order of the checks.
use Prim.Native.Nat.{ℕ}
use mathlib.Core.Path.{◌≡◌, refl, sym, ap, ◌∙◌}
use mathlib.Core.Bool.{Bool, true, false}
use mathlib.Core.List.{List}
use lib.IntN.{ℤ}
use Rattle.rules.specs.Units.{depth_of, depths_of, raw_m}
use Rattle.rules.specs.Descriptions.{could_be_read}
use Rattle.rules.specs.Looking.{within, shown, rows_with, rows_at, first_half, codes_by, judged_all, codes_if, codes_at, second_half}
use Rattle.rules.specs.declared.Bits.{Bits}
use Rattle.rules.specs.declared.Codes.{Codes}
use Rattle.rules.specs.declared.Depth.{Depth}
use Rattle.rules.specs.declared.Depths.{Depths}
use Rattle.rules.specs.declared.Description.{Description}
use Rattle.rules.specs.declared.Refusal.TheVariants.{DepthUnknown, CodeTooGreat, CouldNotBeRead, RowsOrWeightsWrong}
use Rattle.rules.specs.declared.Shares.{Shares}
use Rattle.std.specs.Prelude.{Err, None, Ok, Some}
use Rattle.rules.specs.declared.Misfit.TheVariants.{NegativeWeight, RowBeyond, WrongSum}
use Rattle.rules.specs.Results.{Judged}

-- ---- the first: 24, 20, 23, accepted

module _ (d : Description) (m : ℕ) (pixel : Codes) where
  pub rows-23 : within m pixel ≡ false → rows_with d m pixel ≡ Err CodeTooGreat
  unfolding rows_with
  rows-23 w = rw w

  pub rows-0 : within m pixel ≡ true → rows_with d m pixel ≡ Ok (shown d m pixel d.kind)
  unfolding rows_with
  rows-0 w = rw w

  -- what is given is what is shown
  pub rows-shown : {shares : Shares} → rows_with d m pixel ≡ Ok shares → shares ≡ shown d m pixel d.kind
  rows-shown {shares} e = by (within m pixel) refl
    where
      by : (t : Bool) → within m pixel ≡ t → shares ≡ shown d m pixel d.kind
      by true w = let so = sym e ∙ rows-0 w in cc
      by false w = let so = sym e ∙ rows-23 w in cc

module _ (d : Description) (table : List ℤ) (raw : ℕ) (pixel : Codes) where
  pub first-24 : could_be_read d table ≡ false → first_half d table raw pixel ≡ Err CouldNotBeRead
  unfolding first_half
  first-24 e = rw e

  first-passed-24 : could_be_read d table ≡ true → first_half d table raw pixel ≡ rows_at d pixel (depth_of raw)
  unfolding first_half
  first-passed-24 e = rw e

  pub first-20 : could_be_read d table ≡ true → depth_of raw ≡ None → first_half d table raw pixel ≡ Err DepthUnknown
  first-20 e u = first-passed-24 e ∙ ap (rows_at d pixel) u

  -- past 20 it is a matter of the raw M alone
  pub first-with : (depth : Depth) → could_be_read d table ≡ true → depth_of raw ≡ Some depth → first_half d table raw pixel ≡ rows_with d depth.greatest pixel
  first-with depth e k = first-passed-24 e ∙ ap (rows_at d pixel) k

-- ---- the second: 24, 20, 26, accepted

module _ (d : Description) (table : List ℤ) (bits : Bits) (shares : Shares) where
  pub second-24 : could_be_read d table ≡ false → second_half d table bits shares ≡ Err CouldNotBeRead
  unfolding second_half
  second-24 e = rw e

  second-passed-24 : could_be_read d table ≡ true → second_half d table bits shares ≡ codes_at d table shares (depths_of bits)
  unfolding second_half
  second-passed-24 e = rw e

  pub second-20 : could_be_read d table ≡ true → depths_of bits ≡ None → second_half d table bits shares ≡ Err DepthUnknown
  second-20 e u = second-passed-24 e ∙ ap (codes_at d table shares) u

  module _ (depths : Depths) (e : could_be_read d table ≡ true) (k : depths_of bits ≡ Some depths) where
    second-passed-20 : second_half d table bits shares ≡ codes_if d table depths shares (judged_all d (raw_m depths) shares)
    second-passed-20 = second-passed-24 e ∙ ap (codes_at d table shares) k

    pub second-26 : (judged_all d (raw_m depths) shares ≡ (Ok tt) → ⊥) → second_half d table bits shares ≡ Err RowsOrWeightsWrong
    second-26 not-fit = second-passed-20 ∙ by (judged_all d (raw_m depths) shares) not-fit
      where
        by : (j : Judged) → (j ≡ (Ok tt) → ⊥) → codes_if d table depths shares j ≡ Err RowsOrWeightsWrong
        by (Ok _) h = absurd (h refl)
        by (Err RowBeyond) h = refl
        by (Err NegativeWeight) h = refl
        by (Err WrongSum) h = refl

    pub second-0 : judged_all d (raw_m depths) shares ≡ (Ok tt) → second_half d table bits shares ≡ Ok (codes_by d table depths shares)
    second-0 fit = second-passed-20 ∙ ap (codes_if d table depths shares) fit
