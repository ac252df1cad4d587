-- Demand 3 in one piece: of whatever reading accepted, at known depths and for codes within them, look answers 0 and every colour is right, and so is a picture
-- of whole pixels with room for its codes. So are the rows and weights that the first half of a look finds, and the codes that the second gives of whatever may be
-- weighed.
use Prim.Native.Nat.{ℕ, ◌%◌, ◌≤◌}
use mathlib.Core.Path.{◌≡◌, ap, subst, ◌∙◌}
use mathlib.Core.Bool.{true}
use mathlib.Core.List.{List}
use lib.IntN.{ℤ}
use lib.ListN.{length}
use Rattle.rules.specs.Units.{depth_of, depths_of, raw_m}
use Rattle.rules.specs.Looking.{within}
use Rattle.rules.specs.Answers.{look_number, first_number, second_number, picture_number}
use Rattle.rules.specs.Promises.{Reads, Looks, FindsRows, GivesCodes, Pictures}
use Rattle.rules.specs.Demands.{AllRight, RightPicture}
use Rattle.rules.specs.declared.Bits.{Bits}
use Rattle.rules.specs.declared.Codes.{Codes}
use Rattle.rules.specs.declared.Colour.{Colour}
use Rattle.rules.specs.declared.Depth.{Depth}
use Rattle.rules.specs.declared.Depths.{Depths}
use Rattle.rules.specs.declared.Description.{Description}
use Rattle.rules.specs.declared.Shares.{Shares}
use Rattle.rules.proofs.Answers.{looks-is, pictures-is}
use Rattle.rules.proofs.Reading.Bridge.{reads-bridge}
use Rattle.rules.proofs.Looking.Checks.{look-0}
use Rattle.rules.proofs.Looking.Demand3.{looks-right}
use Rattle.rules.proofs.Picturing.Checks.{within_all, picture-0}
use Rattle.signature.proofs.Looking.HalvesNumbers.{finds-0, finds-exactly, FitFor, gives-0, gives-exactly}
use Rattle.signature.proofs.Looking.FirstRight.{FoundRight, finds-right}
use Rattle.signature.proofs.Looking.SecondRight.{GivenRight, gives-right}
use Rattle.signature.proofs.Picturing.Promised.{pictures-right}
use Rattle.std.specs.Prelude.{Ok, Some}
use Rattle.rules.specs.Results.{FirstHalf, Look, Picture, SecondHalf}

-- the first half, at a raw depth and of a pixel within it
pub rows_right : {file : List ℕ} {table t : List ℤ} {d : Description} {raw : ℕ} {depth : Depth} {pixel : Codes} {r : FirstHalf}
    → Reads file table (Ok d) t → depth_of raw ≡ Some depth → within depth.greatest pixel ≡ true → FindsRows d t raw pixel r
    → (first_number r ≡ 0) × FoundRight d t raw pixel r
rows_right {depth = depth} reads known inside f =
    let z = (finds-exactly f 0).1 (finds-0 (reads-bridge reads) depth known inside) in
    (z, finds-right f z)

module _ {file : List ℕ} {table t : List ℤ} {d : Description} (reads : Reads file table (Ok d) t) {bits : Bits} {depths : Depths} (known : depths_of bits ≡ Some depths) where
  pub look-right : {pixel : Codes} {r : Look} → within (raw_m depths) pixel ≡ true → Looks d t bits pixel r → (look_number r ≡ 0) × AllRight d t bits pixel r
  look-right {pixel} inside l =
      let z = ap look_number (looks-is l ∙ look-0 d t bits pixel depths (reads-bridge reads) known inside) in
      (z, looks-right l z)

  -- the second half, of rows of the table and weights that are not negative and add up to the denominator
  pub codes-right : {shares : Shares} {r : SecondHalf} → ((c : Colour) → FitFor d (raw_m depths) shares c) → GivesCodes d t bits shares r
      → (second_number r ≡ 0) × GivenRight d t bits shares r
  codes-right fit g =
      let z = (gives-exactly g 0).1 (gives-0 (record { readable = reads-bridge reads; depths = depths; known = known; fit = fit })) in
      (z, gives-right g z)

  pub picture-right : {src dst dst' : List ℕ} {r : Picture} → length src % 3 ≡ 0 → length src ≤ length dst → within_all (raw_m depths) src ≡ true
      → Pictures d t bits src dst r dst' → (picture_number r ≡ 0) × RightPicture d t bits src dst dst'
  picture-right {src} {dst} {dst'} whole room inside p =
      let e = (pictures-is p).0 ∙ picture-0 d t bits src (length dst) depths (reads-bridge reads) known whole room inside in
      (ap picture_number e, pictures-right (subst (λ r. Pictures d t bits src dst r dst') e p))
