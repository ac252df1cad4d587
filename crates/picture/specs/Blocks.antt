-- A block of a picture whose codes have their keys and places.
use Rattle.std.specs.Prelude.{ℕ, ◌+◌, ◌-◌, ◌%◌, ◌≤◌, ◌<◌, ◌≡◌, List, ℤ, length, take, get_or}
use Rattle.rules.specs.Units.{raw_m}
use Rattle.rules.specs.Looking.{correct}
use Rattle.rules.specs.Picturing.{each_pixel}
use Rattle.rules.specs.Memory.{spliced}
use Rattle.rules.specs.declared.Codes.{Codes}
use Rattle.lanes.specs.Lanes.{key_by, offset_by}
use Rattle.lanes.specs.Cubes.{Cubed}
use Rattle.lanes.specs.Spots.{lane_at}
use Rattle.lanes.specs.declared.cube.Cube.{Cube}
use Rattle.picture.specs.Filling.{Fillable, Inside}
use Rattle.lanes.specs.declared.path.Spot.{Spot}

-- look's codes of a pixel, by the description and the depths that a cube was made of
abbrev pub correct_by : {cube : Cube} {table : List ℤ} → Cubed cube table → Codes → Codes
correct_by {table = table} q = correct q.planned.d table q.planned.depths

-- no code is above the raw M of the depths that a cube was made of
abbrev pub Within : {cube : Cube} {table : List ℤ} → Cubed cube table → List ℕ → Type 0
Within q src = Inside (raw_m q.planned.depths) src

-- the output dst' when the first i codes of the picture are corrected into dst
pub record Filled (f : Codes → Codes) (src dst : List ℕ) (i : ℕ) (dst' : List ℕ) : Type 0 where
  pub reached : i ≤ length src
  pub whole : i % 3 ≡ 0
  pub is : dst' ≡ spliced dst 0 (each_pixel f (take i src))

-- where the pixel that begins at a place of a block begins, and its keys
abbrev pub start_from : List ℕ → ℕ → ℕ
start_from starts j = get_or starts j 0 + get_or starts (j + 1) 0 + get_or starts (j + 2) 0

abbrev pub spot_from : List ℕ → List ℕ → ℕ → Spot
spot_from keys starts j = record { start = start_from starts j; red = get_or keys j 0; green = get_or keys (j + 1) 0; blue = get_or keys (j + 2) 0 }

-- the codes from at to end have their keys and places, and those before at are corrected
pub record Blocked (cube : Cube) (table : List ℤ) (keys starts dst : List ℕ) (at end : ℕ) : Type 0 where
  pub cubed : Cubed cube table
  pub src : List ℕ
  pub first : List ℕ
  pub within : Within cubed src
  pub fillable : Fillable src (length first)
  pub filled : Filled (correct_by cubed) src first at dst
  pub whole : end % 3 ≡ 0
  pub at_most : at ≤ end
  pub end_most : end ≤ length src
  pub keys_long : end - at ≤ length keys
  pub starts_long : end - at ≤ length starts
  pub keys_are : (j : ℕ) → at + j < end → get_or keys j 0 ≡ key_by cube.axis.den (lane_at cube.lanes j) (get_or src (at + j) 0)
  pub starts_are : (j : ℕ) → at + j < end → get_or starts j 0 ≡ offset_by (lane_at cube.lanes j) (get_or src (at + j) 0)

abbrev pub FilledTo : {cube : Cube} {table : List ℤ} {keys starts dst : List ℕ} {at end : ℕ} → Blocked cube table keys starts dst at end → ℕ → List ℕ → Type 0
FilledTo b i dst' = Filled (correct_by b.cubed) b.src b.first i dst'
