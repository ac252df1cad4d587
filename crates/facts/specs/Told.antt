-- What is told of the exact value of one colour of a pixel.
use Rattle.std.specs.Prelude.{ℕ, ◌+◌, ◌*◌, ◌≤◌, ◌<◌, ◌≡◌, List, ℤ, nat_abs, Some}
use Rattle.rules.specs.Units.{depths_of, raw_m, corrected_m}
use Rattle.rules.specs.Looking.Interpolation.{den_of, total, denominator}
use Rattle.rules.specs.Looking.{used}
use Rattle.rules.specs.declared.Bits.{Bits}
use Rattle.rules.specs.declared.Colour.{Colour}
use Rattle.rules.specs.declared.Depths.{Depths}
use Rattle.rules.specs.declared.Description.{Description}
use Rattle.rules.specs.declared.Shares.{Shares}
use Rattle.exact.specs.Values.{LowestTerms, CodeValue, settled_as, Apart}
use Rattle.exact.specs.declared.ratio.Ratio.{Ratio}
use Rattle.facts.specs.declared.parts.Parts.{Parts}
use Rattle.facts.specs.declared.told.Facts.{Facts}

-- depths that are found by their bits
abbrev pub KnownDepths : Depths → Type 0
KnownDepths depths = (bits : Bits) × (depths_of bits ≡ Some depths)

-- of an exact value s / e, for codes up to m, and of a code
pub record Told (s : ℤ) (e m code : ℕ) (f : Facts) : Type 0 where
  pub sum : f.sum.0 ≡ s
  pub over : f.over ≡ e
  pub lowest : LowestTerms s e f.lowest
  pub value : CodeValue s e m f.value
  pub settled : f.settled ≡ settled_as s e f.value.rest f.value.unit
  pub distance : Apart code f.value f.distance
  -- what printing asks for: nothing stands over 0 or over 2^60 and more, and the whole is at most 2^40 in size
  pub some : 0 < f.over
  pub over_most : f.over < 1_152_921_504_606_846_976
  pub bottom_most : f.lowest.bottom < 1_152_921_504_606_846_976
  pub unit_most : f.value.unit < 1_152_921_504_606_846_976
  pub whole_most : nat_abs f.value.whole.0 ≤ 1_099_511_627_776

-- of a colour: s is the sum of the rows that its code is made of, e is D·10,000,000, and m the M of corrected codes
abbrev pub FactsOf : Description → List ℤ → Depths → Shares → Colour → ℕ → Facts → Type 0
FactsOf d table depths shares c code f =
    Told (total table c (used d.kind c shares)) (denominator (den_of d (raw_m depths) c)) (corrected_m depths) code f

-- the size of a ratio is whole + rest / bottom
pub record Parted (r : Ratio) (p : Parts) : Type 0 where
  pub below : p.rest < r.bottom
  pub same : p.whole * r.bottom + p.rest ≡ nat_abs r.top.0
