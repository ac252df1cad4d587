-- A block whose codes have their keys and places: what each of its pixels has, by the lanes of red, green and blue.
use Prim.Native.Nat.{ℕ, ◌+◌, ◌-◌, ◌%◌, ◌≤◌, ◌<◌, min}
use mathlib.Core.Path.{◌≡◌, refl, sym, ap, ap₂, subst, ◌∙◌}
use mathlib.Core.Bool.{Bool, true, false, cond}
use mathlib.Core.List.{List, ◌++◌}
use native.Mathlib.Nat as NatL
use native.Mathlib.Omega.{arith}
use lib.Dec.{eqb, leb}
use lib.IntN.{ℤ}
use lib.ListN.{length, take, drop, get_or, length-take, length-drop}
use lib.Seq.{get_or-take, get_or-drop, length-take-le}
use Rattle.rules.specs.Units.{raw_m, code_in}
use Rattle.rules.specs.Looking.{correct}
use Rattle.rules.specs.Reading.Lines.{every}
use Rattle.rules.specs.Answers.{codes_of}
use Rattle.rules.specs.Picturing.{each_pixel}
use Rattle.rules.specs.Memory.{spliced}
use Rattle.rules.specs.declared.Codes.{Codes}
use Rattle.rules.specs.declared.Colour.{Colour}
use Rattle.rules.specs.declared.Colour.TheVariants.{Red, Green, Blue}
use Rattle.rules.specs.declared.Depths.{Depths}
use Rattle.rules.specs.declared.Description.{Description}
use Rattle.colour.proofs.Plans.{cells_fit}
use Rattle.lanes.specs.Lanes.{key_by, offset_by}
use Rattle.lanes.specs.Cubes.{lane_in, Cubed, CubedFor, Placed}
use Rattle.lanes.specs.Spots.{lane_at, Laid, Roomy, key_at, start_at, spot_in, Spotted}
use Rattle.lanes.specs.declared.cube.Cube.{Cube}
use Rattle.lanes.specs.declared.cube.Lanes.{Lanes}
use Rattle.lanes.specs.declared.lane.Lane.{Lane}
use Rattle.lanes.proofs.Placing.{stride-below, keyed}
use Rattle.picture.specs.Filling.{pixel_from, Fillable}
use Rattle.picture.specs.Blocks.{correct_by, Within, Filled, start_from, spot_from, Blocked, FilledTo}
use Rattle.lanes.specs.declared.path.Spot.{Spot}
use Rattle.picture.proofs.Filled.{inside-so, room-here, one-filled}

-- ---- the lanes at three places in a row

module _ (lanes : Lanes) (j : ℕ) (z : j % 3 ≡ 0) where
  red-at : lane_at lanes j ≡ lanes.red
  red-at = rw z refl

  green-at : lane_at lanes (j + 1) ≡ lanes.green
  green-at = let one : (j + 1) % 3 ≡ 1 = omega (arith, z) in rw one refl

  blue-at : lane_at lanes (j + 2) ≡ lanes.blue
  blue-at = let two : (j + 2) % 3 ≡ 2 = omega (arith, z) in rw two refl

-- ---- a pixel of the block

module _ {cube : Cube} {table : List ℤ} {keys starts dst : List ℕ} {at end : ℕ} (b : Blocked cube table keys starts dst at end) (j : ℕ) (z : j % 3 ≡ 0) (h : at + j < end) where
  -- a pixel that begins in the block ends in it
  pub whole_there : at + j + 2 < end
  whole_there = omega (arith, z, h, b.whole, b.filled.whole)

  codes-inside : (c : Colour) → code_in (pixel_from b.src (at + j)) c ≤ raw_m b.cubed.planned.depths
  codes-inside Red = b.within.inside (at + j) (omega (arith, whole_there, b.end_most))
  codes-inside Green = b.within.inside (at + j + 1) (omega (arith, whole_there, b.end_most))
  codes-inside Blue = b.within.inside (at + j + 2) (omega (arith, whole_there, b.end_most))

  -- what the block has at a place, by the lane there and the code of the picture
  key-at : (k : ℕ) {n : ℕ} {lane : Lane} → at + k ≡ n → n < end → lane_at cube.lanes k ≡ lane → get_or keys k 0 ≡ key_by cube.axis.den lane (get_or b.src n 0)
  key-at k e l lane-is = b.keys_are k (omega (arith, e, l)) ∙ ap₂ (λ x n. key_by cube.axis.den x (get_or b.src n 0)) lane-is e

  start-at : (k : ℕ) {n : ℕ} {lane : Lane} → at + k ≡ n → n < end → lane_at cube.lanes k ≡ lane → get_or starts k 0 ≡ offset_by lane (get_or b.src n 0)
  start-at k e l lane-is = b.starts_are k (omega (arith, e, l)) ∙ ap₂ (λ x n. offset_by x (get_or b.src n 0)) lane-is e

  abbrev placed : Placed cube table (spot_from keys starts j)
  placed =
      let red = red-at cube.lanes j z in
      let green = green-at cube.lanes j z in
      let blue = blue-at cube.lanes j z in
      let one : at + (j + 1) ≡ at + j + 1 = omega arith in
      let two : at + (j + 2) ≡ at + j + 2 = omega arith in
      let within : at + j + 1 < end = omega (arith, whole_there) in
      record {
        cubed = b.cubed;
        pixel = pixel_from b.src (at + j);
        inside = codes-inside;
        at =
            record {
              start_is = sum_of (start-at j refl h red) (start-at (j + 1) one within green) (start-at (j + 2) two whole_there blue);
              red_is = key-at j refl h red;
              green_is = key-at (j + 1) one within green;
              blue_is = key-at (j + 2) two whole_there blue;
            };
      }
    where
      sum_of : {a b c d e f : ℕ} → a ≡ d → b ≡ e → c ≡ f → a + b + c ≡ d + e + f
      sum_of p q r = omega arith

  module _ {spot : Spot} (e : spot ≡ spot_from keys starts j) where
    pub spot-placed : Placed cube table spot
    spot-placed = subst (λ (x : Spot). Placed cube table x) (sym e) placed

    -- what is made of it is made of the pixel
    pub spot-coded : {codes : Codes}
        → ((p : Placed cube table spot) → codes ≡ correct p.cubed.planned.d table p.cubed.planned.depths p.pixel)
        → codes ≡ correct_by b.cubed (pixel_from b.src (at + j))
    spot-coded {codes} h =
        subst
        (λ (x : Spot). (p : Placed cube table x) → codes ≡ correct p.cubed.planned.d table p.cubed.planned.depths p.pixel)
        e h placed

  -- and its start leaves room
  pub start-near : start_from starts j < 9_223_372_036_854_775_808
  start-near = omega (arith, (keyed placed).room)

  pub keys-there : j + 2 < length keys
  keys-there = omega (arith, whole_there, b.keys_long)

  pub starts-there : j + 2 < length starts
  starts-there = omega (arith, whole_there, b.starts_long)

  -- the pixel corrected and written
  module _ {dst' : List ℕ} (filled : FilledTo b (at + j) dst') where
    pub room-there : at + j + 2 < length dst'
    room-there = room-here b.fillable filled (omega (arith, whole_there, b.end_most))

    pub one-passed : {codes : Codes} {dst'' : List ℕ} → codes ≡ correct_by b.cubed (pixel_from b.src (at + j)) → dst'' ≡ spliced dst' (at + j) (codes_of codes)
        → FilledTo b (at + (j + 3)) dst''
    one-passed {dst'' = dst''} e wrote =
        subst (λ n. FilledTo b n dst'') (omega arith) (one-filled b.fillable filled (omega (arith, whole_there, b.end_most)) refl e wrote)

-- ---- a block whose keys and places have just been found

-- what holds of the three lanes holds of the lane at every place
lane-anywhere : (P : Lane → Type 0) (lanes : Lanes) → ((c : Colour) → P (lane_in lanes c)) → (j : ℕ) → P (lane_at lanes j)
lane-anywhere P lanes each j = by (eqb (j % 3) 0) (eqb (j % 3) 1)
  where
    by : (x y : Bool) → P (cond x lanes.red (cond y lanes.green lanes.blue))
    by true y = each Red
    by false true = each Green
    by false false = each Blue

module _ {cube : Cube} {table : List ℤ} {times from strides : List ℕ} (q : Cubed cube table) (laid : Laid cube.lanes 192 times from strides) where
  from-near : (c : Colour) → (lane_in cube.lanes c).from ≤ 1_152_921_504_606_846_976
  from-near c = omega (arith, (q.lanes c).runs.near, (cells_fit q.planned).most)

  pub roomy : {n keys starts : ℕ} → n ≤ 192 → keys ≡ 192 → starts ≡ 192 → Roomy n times from strides keys starts
  roomy few keys_long starts_long =
      record {
        times_long = omega (arith, few, laid.times_long);
        from_long = omega (arith, few, laid.from_long);
        strides_long = omega (arith, few, laid.strides_long);
        keys_long = omega (arith, few, keys_long);
        starts_long = omega (arith, few, starts_long);
        slow = λ j h. NatL.lt_of_le_of_lt (NatL.le_of_eq (laid.times_are j (omega (arith, few, h)))) (lane-anywhere (λ l. l.times < 4_294_967_296) cube.lanes (λ c. (q.lanes c).runs.slow) j);
        near = λ j h. NatL.le_trans (NatL.le_of_eq (laid.from_are j (omega (arith, few, h)))) (lane-anywhere (λ l. l.from ≤ 1_152_921_504_606_846_976) cube.lanes from-near j);
        short = λ j h. NatL.lt_of_le_of_lt (NatL.le_of_eq (laid.strides_are j (omega (arith, few, h)))) (lane-anywhere (λ l. l.stride < 4_294_967_296) cube.lanes (stride-below q) j);
      }

-- where a block ends
module _ (src : List ℕ) {at end : ℕ} (h : at < length src) (e : end ≡ min (at + 192) (length src)) where
  abbrev pub codes_in : List ℕ
  codes_in = take (end - at) (drop at src)

  pub end_most : end ≤ length src
  end_most = omega (arith, e, h)

  pub end_later : at < end
  end_later = omega (arith, e, h)

  pub few-codes : length codes_in ≤ 192
  few-codes = omega (arith, length-take (end - at) (drop at src), e)

  codes-long : length codes_in ≡ end - at
  codes-long = length-take-le (end - at) (drop at src) (omega (arith, length-drop at src, end_most))

  module _ {cube : Cube} {table : List ℤ} {times from strides keys starts first dst : List ℕ} (q : Cubed cube table) (laid : Laid cube.lanes 192 times from strides)
      (within : Within q src) (s : Fillable src (length first)) (filled : Filled (correct_by q) src first at dst) where
    pub blocked : length keys ≡ 192 → length starts ≡ 192 → Spotted cube.axis.den codes_in times from strides keys starts → Blocked cube table keys starts dst at end
    blocked keys_long starts_long found =
        record {
          cubed = q;
          src = src;
          first = first;
          within = within;
          fillable = s;
          filled = filled;
          whole = omega (arith, e, filled.whole, s.whole);
          at_most = omega (arith, end_later);
          end_most = end_most;
          keys_long = omega (arith, e, keys_long);
          starts_long = omega (arith, e, starts_long);
          keys_are = λ j l. found.keys_are j (in-codes j l) ∙ key-so j l;
          starts_are = λ j l. found.starts_are j (in-codes j l) ∙ start-so j l;
        }
      where
        in-codes : (j : ℕ) → at + j < end → j < length codes_in
        in-codes j l = omega (arith, codes-long, l)

        code_so : (j : ℕ) → at + j < end → get_or codes_in j 0 ≡ get_or src (at + j) 0
        code_so j l = get_or-take (end - at) (drop at src) j 0 (omega (arith, l)) ∙ get_or-drop at src j 0

        few : (j : ℕ) → at + j < end → j < 192
        few j l = omega (arith, e, l)

        key-so : (j : ℕ) → at + j < end
            → key_at cube.axis.den (spot_in codes_in times from j) (get_or strides j 0) ≡ key_by cube.axis.den (lane_at cube.lanes j) (get_or src (at + j) 0)
        key-so j l = rw (code_so j l, laid.times_are j (few j l), laid.from_are j (few j l), laid.strides_are j (few j l)) refl

        start-so : (j : ℕ) → at + j < end → start_at (spot_in codes_in times from j) (get_or strides j 0) ≡ offset_by (lane_at cube.lanes j) (get_or src (at + j) 0)
        start-so j l = rw (code_so j l, laid.times_are j (few j l), laid.from_are j (few j l), laid.strides_are j (few j l)) refl

    -- corrected by any way, it is corrected by the cube
    pub block-filled : length keys ≡ 192 → length starts ≡ 192 → Spotted cube.axis.den codes_in times from strides keys starts → {dst' : List ℕ}
        → ((b : Blocked cube table keys starts dst at end) → FilledTo b end dst') → Filled (correct_by q) src first (min (at + 192) (length src)) dst'
    unfolding blocked
    block-filled keys_long starts_long found {dst'} h =
        subst (λ n. Filled (correct_by q) src first n dst') e (h (blocked keys_long starts_long found))

-- ---- a whole picture

-- 23 has been passed
pub within-so : {d : Description} {depths : Depths} {cube : Cube} {table : List ℤ} (q : CubedFor d depths cube table) (src : List ℕ)
    → every (λ c. leb c (raw_m depths)) src ≡ true → Within q.cubed src
within-so {depths = depths} q src all = inside-so (raw_m depths) src all (ap raw_m q.depths_are)

-- corrected by the cube, it is corrected by the description and the depths that the cube is of
pub made-for : {d : Description} {depths : Depths} {cube : Cube} {table : List ℤ} (q : CubedFor d depths cube table) (src dst : List ℕ) {dst' : List ℕ}
    → dst' ≡ each_pixel (correct_by q.cubed) src ++ drop (length src) dst → dst' ≡ each_pixel (correct d table depths) src ++ drop (length src) dst
made-for {table = table} q src dst e = e ∙ ap₂ (λ d depths. each_pixel (correct d table depths) src ++ drop (length src) dst) q.d_is q.depths_are
