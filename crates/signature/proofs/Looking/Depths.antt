-- Document 02, Req 06: what the two depths decide of look. 20 is given exactly where one of them is unknown, whatever the pixel, 23 goes by the M of raw codes,
-- and no code of an accepted look is above the M of corrected codes.
use Prim.Native.Nat.{◌≤◌, ◌<◌}
use mathlib.Core.Path.{◌≡◌, sym, subst}
use mathlib.Core.Logic.{inl, inr}
use mathlib.Core.Bool.{true}
use mathlib.Core.List.{List}
use lib.IntN.{ℤ}
use Rattle.rules.specs.Units.{depth_of, depths_of, raw_m, corrected_m, code_in}
use Rattle.rules.specs.Descriptions.{could_be_read}
use Rattle.rules.specs.Looking.{look}
use Rattle.rules.specs.Answers.{look_number, codes_in}
use Rattle.rules.specs.Promises.{Looks}
use Rattle.rules.specs.declared.Bits.{Bits}
use Rattle.rules.specs.declared.Codes.{Codes}
use Rattle.rules.specs.declared.Colour.{Colour}
use Rattle.rules.specs.declared.Depth.{Depth}
use Rattle.rules.specs.declared.Depths.{Depths}
use Rattle.rules.specs.declared.Description.{Description}
use Rattle.rules.proofs.KnownDepths.{OneUnknown, depths-one}
use Rattle.rules.proofs.Looking.Demand3.{looks-right}
use Rattle.signature.proofs.Looking.Numbers.{LookGiven, given-20, given-23, look-given, given-look}
use Rattle.std.specs.Prelude.{None, Some}
use Rattle.rules.specs.Results.{Look}

-- ---- 20 and 23

-- known depths, and a code above the M of raw codes
pub record AboveRaw (bits : Bits) (pixel : Codes) : Type 0 where
  pub depths : Depths
  pub known : depths_of bits ≡ Some depths
  pub colour : Colour
  pub above : raw_m depths < code_in pixel colour

module _ (d : Description) (table : List ℤ) (bits : Bits) (pixel : Codes) where
  -- the raw depth is unknown
  pub look-20-raw : could_be_read d table ≡ true → depth_of bits.raw ≡ None → look_number (look d table bits pixel) ≡ 20
  look-20-raw could u = given-look d table bits pixel 20 (given-20 could (inl u))

  -- the raw depth is known and the corrected is not, also where a code is above M
  pub look-20-corrected : could_be_read d table ≡ true → (raw : Depth) → depth_of bits.raw ≡ Some raw → depth_of bits.corrected ≡ None
      → look_number (look d table bits pixel) ≡ 20
  look-20-corrected could raw k u = given-look d table bits pixel 20 (given-20 could (inr (raw, k, u)))

  -- there alone
  pub look-20-only : look_number (look d table bits pixel) ≡ 20 → (could_be_read d table ≡ true) × OneUnknown bits
  look-20-only z = by (subst (LookGiven d table bits pixel) z (look-given d table bits pixel))
    where
      by : LookGiven d table bits pixel 20 → (could_be_read d table ≡ true) × OneUnknown bits
      by (given-20 could u) = (could, u)

  -- 23 is given exactly where both depths are known and a code is above the raw M
  pub look-23-raw : could_be_read d table ≡ true → AboveRaw bits pixel → look_number (look d table bits pixel) ≡ 23
  look-23-raw could a = given-look d table bits pixel 23 (given-23 could a.depths a.known a.colour a.above)

  pub look-23-only : look_number (look d table bits pixel) ≡ 23 → (could_be_read d table ≡ true) × AboveRaw bits pixel
  look-23-only z = by (subst (LookGiven d table bits pixel) z (look-given d table bits pixel))
    where
      by : LookGiven d table bits pixel 23 → (could_be_read d table ≡ true) × AboveRaw bits pixel
      by (given-23 could depths k c above) = (could, record { depths = depths; known = k; colour = c; above = above })

-- ---- the codes

-- every code of an accepted look is at most the corrected M
pub looks-most : {d : Description} {table : List ℤ} {bits : Bits} {depths : Depths} {pixel : Codes} {r : Look} → depths_of bits ≡ Some depths
    → Looks d table bits pixel r → look_number r ≡ 0 → (c : Colour) → code_in (codes_in r) c ≤ corrected_m depths
looks-most {bits = bits} {depths} {r = r} known l z c =
    let a = looks-right l z in
    let most = subst (λ x. code_in (codes_in x) c ≤ corrected_m a.depths) (sym a.accepted) (a.all_right c).nearest.top in
    subst (λ x. code_in (codes_in r) c ≤ corrected_m x) (depths-one bits a.depths depths a.known known) most
