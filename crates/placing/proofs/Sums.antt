-- The two rows that carry nothing in 1D change no sum; and where rows and weights may be added up: of a pixel, of an accepted look, and wherever they are
-- judged fit.
use Prim.Native.Nat.{◌*◌, ◌≤◌, ◌<◌}
use mathlib.Core.Path.{◌≡◌, refl, sym, ap, subst, ◌∙◌}
use mathlib.Core.Bool.{true}
use mathlib.Core.List.{List}
use native.Mathlib.Omega.{arith}
use lib.IntN.{ℤ, nat_abs, zero-*ℤ}
use Rattle.rules.specs.Units.{depths_of, raw_m}
use Rattle.rules.specs.Descriptions.{could_be_read, Sound}
use Rattle.rules.specs.Looking.Interpolation.{den_of, total, denominator}
use Rattle.rules.specs.Looking.{shown, used, judged_all}
use Rattle.rules.specs.Answers.{look_number}
use Rattle.rules.specs.Promises.{Looks}
use Rattle.rules.specs.declared.Bits.{Bits}
use Rattle.rules.specs.declared.Codes.{Codes}
use Rattle.rules.specs.declared.Colour.{Colour}
use Rattle.rules.specs.declared.Colour.TheVariants.{Red, Green, Blue}
use Rattle.rules.specs.declared.Depths.{Depths}
use Rattle.rules.specs.declared.Description.{Description}
use Rattle.rules.specs.declared.Kind.{Kind}
use Rattle.rules.specs.declared.Kind.TheVariants.{OneD, ThreeD}
use Rattle.rules.specs.declared.Shares.{Shares}
use Rattle.rules.proofs.Answers.{looks-is}
use Rattle.rules.proofs.KnownDepths.{depths-bounds}
use Rattle.rules.proofs.Sound.{sound-of, sound-rows}
use Rattle.rules.proofs.Looking.Checks.{LookPassed, look-passed, look-0}
use Rattle.rules.proofs.Looking.Demand3.{rule-weighable}
use Rattle.rules.proofs.Looking.Judging.{all-weighable}
use Rattle.rules.proofs.Looking.Spans.{span-most}
use Rattle.colour.specs.Adding.{RowAt, carried, SharesFit, Totalled}
use Rattle.colour.proofs.Plans.{den-most}
use Rattle.colour.proofs.Weighing.{row-stands, rows-stand, carried-is}
use Rattle.halves.specs.Listed.{listed, four_of}
use Rattle.halves.specs.declared.fours.Four.{Four}
use Rattle.placing.specs.Shown.{Summed}
use Rattle.std.specs.Prelude.{Err, Ok, Some}
use Rattle.rules.specs.Results.{Look, look_of}

-- ---- two that carry nothing

four-total : (table : List ℤ) (k : Kind) (c : Colour) (shares : Shares) → total table c (four_of k c shares) ≡ total table c (used k c shares)
four-total table ThreeD c shares = refl
four-total table OneD Red shares = rw zero-*ℤ
four-total table OneD Green shares = rw zero-*ℤ
four-total table OneD Blue shares = rw zero-*ℤ

four-carried : (k : Kind) (c : Colour) (shares : Shares) → carried (four_of k c shares) ≡ carried (used k c shares)
four-carried ThreeD c shares = refl
four-carried OneD Red shares = refl
four-carried OneD Green shares = refl
four-carried OneD Blue shares = refl

-- they have a row of the table too
four-fit : (table : List ℤ) → RowAt table 0 → (k : Kind) (c : Colour) (shares : Shares) → SharesFit table (used k c shares) → SharesFit table (four_of k c shares)
four-fit table first ThreeD c shares h = h
four-fit table first OneD Red shares h = record { rows = (h.rows.0, (h.rows.1.0, (first, (first, tt)))); weights = h.weights }
four-fit table first OneD Green shares h = record { rows = (h.rows.0, (h.rows.1.0, (first, (first, tt)))); weights = h.weights }
four-fit table first OneD Blue shares h = record { rows = (h.rows.0, (h.rows.1.0, (first, (first, tt)))); weights = h.weights }

-- ---- rows and weights that may be added up

module _ {d : Description} {table : List ℤ} {depths : Depths} {shares : Shares} (s : Summed d table depths shares) (c : Colour) where
  abbrev sound : Sound d table
  sound = sound-of d table s.could

  -- the weights come to D
  carried-den : carried (used d.kind c shares) ≡ den_of d (raw_m depths) c
  carried-den = let w = s.weighable c in ap nat_abs (sym (carried-is (used d.kind c shares) w.not_negative) ∙ w.add_up)

  used-fit : SharesFit table (used d.kind c shares)
  used-fit = record {
    rows = rows-stand d table sound (used d.kind c shares) (s.weighable c).in_table;
    weights = omega (arith, carried-den, den-most (raw_m depths) _ s.most (span-most d sound c));
  }

  module _ (four : Four) (e : listed four ≡ four_of d.kind c shares) where
    pub listed-fit : SharesFit table (listed four)
    listed-fit = subst (SharesFit table) (sym e) (four-fit table (row-stands d table sound 0 (sound-rows d table sound)) d.kind c shares used-fit)

    module _ {z : ℤ} (t : Totalled table c (listed four) z) where
      pub is-total : z ≡ total table c (used d.kind c shares)
      is-total = t.is ∙ ap (total table c) e ∙ four-total table d.kind c shares

      pub total-most : nat_abs z ≤ 1000 * denominator (den_of d (raw_m depths) c)
      total-most = omega (arith, t.within, ap carried e ∙ four-carried d.kind c shares ∙ carried-den)

-- ---- where they may be

module _ (d : Description) (table : List ℤ) (depths : Depths) (could : could_be_read d table ≡ true) (deep : (0 < raw_m depths) × (raw_m depths ≤ 65535)) where
  -- of a pixel
  pub shown-summed : (pixel : Codes) → Summed d table depths (shown d (raw_m depths) pixel d.kind)
  shown-summed pixel = record { could = could; deep = deep.0; most = deep.1; weighable = rule-weighable d table (raw_m depths) pixel could deep.0 }

  -- wherever they are judged fit, whoever wrote them
  pub fit-summed : {shares : Shares} → judged_all d (raw_m depths) shares ≡ (Ok tt) → Summed d table depths shares
  fit-summed {shares} e = record { could = could; deep = deep.0; most = deep.1; weighable = all-weighable d (raw_m depths) shares e }

-- the rows and weights of a look, if it is accepted
abbrev shares_or : Shares → Look → Shares
shares_or other (Ok x) = x.shares
shares_or other (Err _) = other

-- of a look that is accepted
pub look-summed : {d : Description} {table : List ℤ} {bits : Bits} {pixel : Codes} {r : Look} → Looks d table bits pixel r
    → {codes : Codes} {shares : Shares} → r ≡ look_of codes shares → (depths : Depths) → depths_of bits ≡ Some depths → Summed d table depths shares
look-summed {d} {table} {bits} {pixel} l {codes} {shares} e depths known =
    subst (Summed d table depths) (sym shares-shown) (shown-summed d table depths passed.could (depths-bounds bits depths known).0 pixel)
  where
    passed : LookPassed d table bits pixel
    passed = look-passed d table bits pixel (sym l.number ∙ ap look_number e)

    depths-same : passed.depths ≡ depths
    depths-same = let q = sym passed.known ∙ known in cc

    shares-shown : shares ≡ shown d (raw_m depths) pixel d.kind
    shares-shown =
        let q = sym e ∙ looks-is l ∙ look-0 d table bits pixel passed.depths passed.could passed.known passed.inside in
        ap (shares_or shares) q ∙ ap (λ x. shown d (raw_m x) pixel d.kind) depths-same
