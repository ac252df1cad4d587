-- What plays no part in the halves of a look: in the first the samples of a table that could be read, in the second the places that the kind does not use, and in
-- both what stands in the table past 3·rows.
use Prim.Native.Nat.{ℕ, ◌*◌}
use mathlib.Core.Path.{◌≡◌, refl, sym, ap, ap₂, subst, ◌∙◌}
use mathlib.Core.Bool.{true, cond}
use mathlib.Core.List.{List, [], ◌∷◌}
use lib.IntN.{ℤ, pos, ◌*ℤ◌}
use lib.ListN.{take}
use Rattle.whole.specs.Nearest.{code}
use Rattle.rules.specs.Units.{depth_of, depths_of, raw_m, corrected_m}
use Rattle.rules.specs.Descriptions.{rows, could_be_read}
use Rattle.rules.specs.Looking.Interpolation.{den_of, denominator, code_by}
use Rattle.rules.specs.Looking.{used, rows_at, first_half, code_of, codes_by, judged_all, codes_at, second_half}
use Rattle.rules.specs.Promises.{FindsRows, GivesCodes}
use Rattle.rules.specs.declared.Bits.{Bits}
use Rattle.rules.specs.declared.Codes.{Codes}
use Rattle.rules.specs.declared.Colour.{Colour}
use Rattle.rules.specs.declared.Colour.TheVariants.{Red, Green, Blue}
use Rattle.rules.specs.declared.Depths.{Depths}
use Rattle.rules.specs.declared.Description.{Description}
use Rattle.rules.specs.declared.Kind.TheVariants.{ThreeD}
use Rattle.rules.specs.declared.Refusal.TheVariants.{CouldNotBeRead}
use Rattle.rules.specs.declared.Shares.{Shares}
use Rattle.rules.proofs.Answers.{finds-is, is-finds, gives-is, is-gives}
use Rattle.rules.proofs.Looking.Judging.{all-weighable}
use Rattle.signature.proofs.LaterPlaces.{later-24, later-total}
use Rattle.signature.proofs.Looking.SameShares.{SameShares, same_if, same_second}
use Rattle.std.specs.Prelude.{Err, None, Ok, Option, Some}
use Rattle.rules.specs.Results.{FirstHalf, SecondHalf}

-- ---- what keeps the promise of one input keeps that of another with the same answer

pub finds-alike : {d e : Description} {table other : List ℤ} {raw : ℕ} {a b : Codes} {r : FirstHalf} → first_half d table raw a ≡ first_half e other raw b
    → FindsRows d table raw a r → FindsRows e other raw b r
finds-alike same h = is-finds (finds-is h ∙ same)

pub gives-alike : {d e : Description} {table other : List ℤ} {bits : Bits} {s t : Shares} {r : SecondHalf} → second_half d table bits s ≡ second_half e other bits t
    → GivesCodes d table bits s r → GivesCodes e other bits t r
gives-alike same h = is-gives (gives-is h ∙ same)

-- ---- the table

module _ (d : Description) (table other : List ℤ) where
  first-by-24 : could_be_read d table ≡ could_be_read d other → (raw : ℕ) (pixel : Codes) → first_half d table raw pixel ≡ first_half d other raw pixel
  unfolding first_half
  first-by-24 same raw pixel = ap (λ could. cond could (rows_at d pixel (depth_of raw)) (Err CouldNotBeRead)) same

  -- the rows and weights are the same of any two tables that could be read: samples only have to be within their range
  pub samples-no-part : could_be_read d table ≡ true → could_be_read d other ≡ true → (raw : ℕ) (pixel : Codes) → first_half d table raw pixel ≡ first_half d other raw pixel
  samples-no-part could also = first-by-24 (could ∙ sym also)

  -- tables with the same 3·rows first places, whatever stands after them
  module _ (same : take (3 * rows d) table ≡ take (3 * rows d) other) where
    pub later_first : (raw : ℕ) (pixel : Codes) → first_half d table raw pixel ≡ first_half d other raw pixel
    later_first = first-by-24 (later-24 table other d same)

    -- whoever wrote the rows, they are below the count of rows where the second half comes to the table
    later-codes : (depths : Depths) (shares : Shares) → judged_all d (raw_m depths) shares ≡ (Ok tt) → codes_by d table depths shares ≡ codes_by d other depths shares
    unfolding code_by
    later-codes depths shares fit i = record { red = each Red i; green = each Green i; blue = each Blue i }
      where
        each : (c : Colour) → code_of d table depths shares c ≡ code_of d other depths shares c
        each c =
            ap (λ z. code (pos (corrected_m depths) *ℤ z) (denominator (den_of d (raw_m depths) c)) (corrected_m depths))
            (later-total table other (rows d) same c (used d.kind c shares) (all-weighable d (raw_m depths) shares fit c).in_table)

    pub later_second : (bits : Bits) (shares : Shares) → second_half d table bits shares ≡ second_half d other bits shares
    unfolding second_half
    later_second bits shares = ap₂ (λ could x. cond could x (Err CouldNotBeRead)) (later-24 table other d same) (by (depths_of bits))
      where
        by : (x : Option Depths) → codes_at d table shares x ≡ codes_at d other shares x
        by None = refl
        by (Some depths) = same_if d d table other depths shares shares (judged_all d (raw_m depths) shares) (later-codes depths shares)

-- ---- the six rows and weights

-- places that the kind does not use
pub unused-no-part : {d : Description} {table : List ℤ} {bits : Bits} {s t : Shares} {r : SecondHalf} → SameShares d.kind s t
    → GivesCodes d table bits s r → GivesCodes d table bits t r
unused-no-part {d} {table} {bits} same = gives-alike (same_second d table bits same)

-- sixes that have the same in their first four places
pub record SameFour (s t : Shares) : Type 0 where
  pub first : s.first ≡ t.first
  pub second : s.second ≡ t.second
  pub third : s.third ≡ t.third
  pub fourth : s.fourth ≡ t.fourth

-- in 3D, whatever stands in the fifth and the sixth
pub last-two-no-part : (d : Description) (table : List ℤ) (bits : Bits) {s t : Shares} → d.kind ≡ ThreeD → SameFour s t → second_half d table bits s ≡ second_half d table bits t
last-two-no-part d table bits {s} {t} cube same = same_second d table bits (subst (λ k. SameShares k s t) (sym cube) four)
  where
    four : SameShares ThreeD s t
    four = record { each = λ c i. same.first i ∷ same.second i ∷ same.third i ∷ same.fourth i ∷ [] }
