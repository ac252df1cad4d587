-- The start and the keys of a pixel lead along the definition's path. A key holds the fraction above 2 ^ 32 and the stride below it; a stride is three places to
-- each row, and the start that of the row of the three indices. So the rows of the path stand in the table, and its sums make the corrected codes.
use Prim.Native.Nat.{ℕ, ◌+◌, ◌*◌, ◌/◌, ◌%◌, ◌≤◌, ◌<◌}
use mathlib.Core.Path.{◌≡◌, sym, ap, ap₂, subst, ◌∙◌}
use mathlib.Core.List.{List}
use native.Mathlib.Nat as NatL
use native.Mathlib.Omega.{arith}
use lib.IntN.{ℤ, pos, ◌*ℤ◌}
use Rattle.whole.specs.Nearest.{code}
use Rattle.rules.specs.Units.{corrected_m, rows_of, row_limit, row_at, stride, code_in}
use Rattle.rules.specs.Descriptions.{Sound}
use Rattle.rules.specs.Looking.Interpolation.{rgb, climb, path_by, total}
use Rattle.rules.specs.Looking.Readings.{Descends}
use Rattle.rules.specs.Looking.{correct}
use Rattle.rules.specs.declared.Colour.{Colour}
use Rattle.rules.specs.declared.Colour.TheVariants.{Red, Green, Blue}
use Rattle.rules.specs.declared.Depths.{Depths}
use Rattle.rules.specs.declared.Description.{Description}
use Rattle.rules.proofs.Sound.{sound-of, rows-most}
use Rattle.rules.proofs.Looking.RowsAndWeights.{path-rows}
use Rattle.colour.specs.Limits.{den_limit}
use Rattle.colour.specs.Places.{three}
use Rattle.colour.specs.Adding.{RowAt, Codable}
use Rattle.colour.proofs.Plans.{axis-is}
use Rattle.colour.proofs.Weighing.{row-stands}
use Rattle.lanes.specs.Cubes.{lane_in, Cubed, Placed}
use Rattle.lanes.specs.Lanes.{key_by, offset_by}
use Rattle.lanes.specs.Paths.{fraction_in, stride_in, Keyed, Climbs, path_total, PathFits}
use Rattle.lanes.specs.declared.cube.Cube.{Cube}
use Rattle.lanes.specs.declared.lane.Lane.{Lane}
use Rattle.lanes.specs.declared.path.Path.{Path}
use Rattle.lanes.specs.declared.path.Spot.{Spot}
use Rattle.lanes.proofs.Cubing.{den-narrow, parts-codable}
use Rattle.lanes.proofs.Parting.{stride_most}
use Rattle.lanes.proofs.Values.{index_on, fraction_on, three_d, cube-reads, cube-value}
use Rattle.lanes.proofs.Walked.{walked, walked-fits}

-- ---- a cube

module _ {cube : Cube} {table : List ℤ} (q : Cubed cube table) where
  abbrev d : Description
  d = q.planned.d

  abbrev n : ℕ
  n = d.n

  abbrev depths : Depths
  depths = q.planned.depths

  abbrev lane_for : Colour → Lane
  lane_for = lane_in cube.lanes

  -- sums over its axis can be made codes, with the M of corrected codes
  pub cube-codable : Codable cube.times cube.axis (corrected_m depths)
  cube-codable = subst (λ x. Codable x cube.axis (corrected_m depths)) (sym q.times_is) (parts-codable q.planned Red q.some q.parted)

  pub cube-narrow : cube.axis.den ≤ den_limit
  cube-narrow = den-narrow q.planned Red q.some q.parted

  lane-stride : (k : Colour) → (lane_for k).stride ≡ 3 * stride n k
  lane-stride k = (q.lanes k).stride_is ∙ ap (λ x. 3 * x.stride) (axis-is q.planned k)

  pub stride-below : (k : Colour) → (lane_for k).stride < 4_294_967_296
  stride-below k = omega (arith, (q.lanes k).stride_is, stride_most (record { planned = q.planned; three_d = q.three_d }) k)

  could-sound : Sound d table
  could-sound = sound-of d table q.planned.could

  rows-below : n * n * n ≤ row_limit
  rows-below = subst (λ k. rows_of k n ≤ row_limit) (three_d q) (rows-most d.kind n could-sound.most)

  rows-stand : (row : ℕ) → row < n * n * n → RowAt table (3 * row)
  rows-stand row h = row-stands d table could-sound row (subst (λ k. row < rows_of k n) (sym (three_d q)) h)

-- ---- a pixel

module _ {cube : Cube} {table : List ℤ} {spot : Spot} (p : Placed cube table spot) where
  abbrev q : Cubed cube table
  q = p.cubed

  abbrev den : ℕ
  den = cube.axis.den

  abbrev keys : Colour → ℕ
  keys = three spot.red spot.green spot.blue

  abbrev i : Colour → ℕ
  i = index_on cube p.pixel

  abbrev f : Colour → ℕ
  f = fraction_on cube p.pixel

  -- ---- what its keys and its start are

  key-is : (k : Colour) → keys k ≡ key_by den (lane_for q k) (code_in p.pixel k)
  key-is Red = p.at.red_is
  key-is Green = p.at.green_is
  key-is Blue = p.at.blue_is

  fraction-is : (k : Colour) → fraction_in keys k ≡ f k
  fraction-is k = ap (λ x. x / 4_294_967_296) (key-is k) ∙ omega (arith, stride-below q k)

  fractions-are : fraction_in keys ≡ f
  fractions-are j k = fraction-is k j

  stride_is : (k : Colour) → stride_in keys k ≡ 3 * stride (n q) k
  stride_is k = ap (λ x. x % 4_294_967_296) (key-is k) ∙ omega (arith, stride-below q k) ∙ lane-stride q k

  offset-is : (k : Colour) → offset_by (lane_for q k) (code_in p.pixel k) ≡ 3 * (stride (n q) k * i k)
  offset-is k =
      let s = stride (n q) k in
      ap (λ x. i k * x) (lane-stride q k) ∙ NatL.mul_comm (i k) (3 * s) ∙ NatL.mul_assoc 3 s (i k)

  start_is : spot.start ≡ 3 * row_at (n q) i
  start_is = omega (arith, p.at.start_is, offset-is Red, offset-is Green, offset-is Blue)

  -- ---- which makes them keys, and their path one of the table

  cell : (k : Colour) → i k + 2 ≤ n q
  cell k = (cube-reads q p.pixel p.inside k).cell

  part : (k : Colour) → fraction_in keys k ≤ den
  part k = omega (arith, fraction-is k, (cube-reads q p.pixel p.inside k).part)

  narrow : den ≤ den_limit
  narrow = den-narrow q.planned Red q.some q.parted

  across_is : cube.across ≡ 3 * (1 + n q + n q * n q)
  across_is = omega (arith, q.across_is, lane-stride q Red, lane-stride q Green, lane-stride q Blue)

  -- the end of the path is a row of the table
  room : spot.start + cube.across < 9_223_372_036_854_775_808
  unfolding path_by climb
  room = omega (arith, start_is, across_is, (path-rows (n q) den i f rgb cell).1.1.1.0, rows-below q)

  pub keyed : Keyed den cube.across spot.start keys
  keyed =
      record {
        narrow = narrow;
        part = part;
        across_is = omega (arith, across_is, stride_is Red, stride_is Green, stride_is Blue);
        room = room;
      }

  module _ {path : Path} (w : Climbs spot.start den keys path) where
    pub climbs-fit : PathFits table path
    climbs-fit = walked-fits table (n q) i w start_is stride_is narrow part cell (rows-stand q)

    same_total : (k : Colour) → path_total table k path ≡ total table k (path_by (n q) den i f w.order)
    same_total k =
        walked table (n q) i w start_is stride_is k ∙ ap (λ g. total table k (path_by (n q) den i g w.order)) fractions-are

    descends : Descends f w.order
    descends = subst (λ g. Descends g w.order) fractions-are w.descends

    -- the code of a sum over it
    pub climbs-code : {m r : ℕ} {z : ℤ} (k : Colour) → m ≡ corrected_m (depths q) → z ≡ path_total table k path → r ≡ code (pos m *ℤ z) cube.axis.full m
        → r ≡ code_in (correct (d q) table (depths q) p.pixel) k
    climbs-code k deep sum e =
        e
        ∙ ap₂ (λ x y. code (pos x *ℤ y) cube.axis.full x) deep (sum ∙ same_total k)
        ∙ cube-value q p.pixel p.inside w.order descends k
