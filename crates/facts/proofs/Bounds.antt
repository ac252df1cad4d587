-- D is at most 655,350,000, so E is at most 6,553,500,000,000,000 and S, which is at most 1000 times it, an i64. The units of the facts divide E.
use Prim.Native.Nat.{ℕ, ◌*◌, ◌≤◌, ◌<◌}
use mathlib.Core.Path.{◌≡◌, sym, ap, subst, ◌∙◌}
use mathlib.Core.List.{List}
use native.Mathlib.Omega.{arith}
use lib.IntN.{ℤ, nat_abs}
use Rattle.rules.specs.Units.{raw_m, corrected_m}
use Rattle.rules.specs.Looking.Interpolation.{den_of, denominator}
use Rattle.rules.specs.declared.Colour.{Colour}
use Rattle.rules.specs.declared.Depths.{Depths}
use Rattle.rules.specs.declared.Description.{Description}
use Rattle.rules.specs.declared.Shares.{Shares}
use Rattle.colour.specs.Limits.{sum_limit}
use Rattle.colour.specs.Plans.{plan_of, Planned}
use Rattle.colour.specs.Places.{AxisFits}
use Rattle.colour.specs.Adding.{Codable}
use Rattle.colour.specs.Lines.{line_of}
use Rattle.colour.specs.declared.lines.Line.{Line}
use Rattle.colour.specs.declared.plan.Axis.{Axis}
use Rattle.colour.specs.declared.plan.Plan.{Plan}
use Rattle.colour.proofs.Plans as Plans
use Rattle.exact.specs.Values.{LowestTerms, CodeValue, settled_as, Apart}
use Rattle.exact.specs.declared.codes.InCodes.{InCodes}
use Rattle.exact.proofs.Fractions as Fractions
use Rattle.exact.proofs.CodeValues as CodeValues
use Rattle.placing.specs.Shown.{Summed}
use Rattle.facts.specs.Told.{KnownDepths, Told}
use Rattle.facts.specs.declared.told.Facts.{Facts}

-- ---- a sum over what is full on an axis

module _ {p m : ℕ} {axis : Axis} (fits : AxisFits axis) (coded : Codable p axis m) where
  pub full-most : 1000 * axis.full ≤ sum_limit
  full-most = omega (arith, coded.full, fits.most)

  module _ (s : ℤ) (within : nat_abs s ≤ 1000 * axis.full) where
    pub sum-most : nat_abs s < 9_223_372_036_854_775_808
    sum-most = omega (arith, full-most, within)

    pub value-most : {v : InCodes} → CodeValue s axis.full m v → nat_abs v.whole.0 ≤ 1_099_511_627_776
    value-most value = omega (arith, CodeValues.whole_most coded.wide value 1000 within, coded.deepest)

    pub within-bounds : {code : ℕ} {f : Facts} → f.sum.0 ≡ s → f.over ≡ axis.full → LowestTerms s axis.full f.lowest
        → CodeValue s axis.full m f.value
        → f.settled ≡ settled_as s axis.full f.value.rest f.value.unit → Apart code f.value f.distance → Told s axis.full m code f
    within-bounds sum over lowest value settled distance = record {
      sum = sum;
      over = over;
      lowest = lowest;
      value = value;
      settled = settled;
      distance = distance;
      some = subst (λ e. 0 < e) (sym over) coded.wide;
      over_most = omega (arith, over, full-most);
      bottom_most = omega (arith, Fractions.bottom_most coded.wide lowest, full-most);
      unit_most = omega (arith, CodeValues.unit_most coded.wide value, full-most);
      whole_most = value-most value;
    }

-- ---- a colour's line of a plan

module _ {d : Description} {table : List ℤ} {depths : Depths} {shares : Shares} (summed : Summed d table depths shares) (known : KnownDepths depths) (c : Colour)
    {plan : Plan} (made : plan ≡ plan_of d depths) {line : Line} (drawn : line ≡ line_of plan c) where
  abbrev planned : Planned plan table
  planned = Plans.planned d known.0 summed.could known.1 made

  pub line-fits : AxisFits line.axis
  line-fits = subst (λ x. AxisFits x.axis) (sym drawn) (Plans.axis-fits planned c)

  pub line-codable : Codable line.times line.axis (corrected_m depths)
  line-codable = subst (λ x. Codable x.times x.axis (corrected_m depths)) (sym drawn) (Plans.codable planned c)

  -- what is full is E
  pub line-full : line.axis.full ≡ denominator (den_of d (raw_m depths) c)
  line-full = line-codable.full ∙ ap denominator (ap (λ x. x.axis.den) drawn ∙ Plans.den_is planned c)
