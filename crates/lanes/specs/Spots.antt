-- A block of codes, and the keys and places that are found of it.
use Rattle.std.specs.Prelude.{ℕ, ◌+◌, ◌*◌, ◌/◌, ◌%◌, ◌≤◌, ◌<◌, ◌≡◌, cond, List, eqb, length, get_or}
use Rattle.lanes.specs.declared.cube.Lanes.{Lanes}
use Rattle.lanes.specs.declared.lane.Lane.{Lane}

-- the lane of the code at a place: red, green, blue, and again
abbrev pub lane_at : Lanes → ℕ → Lane
lane_at lanes j = cond (eqb (j % 3) 0) lanes.red (cond (eqb (j % 3) 1) lanes.green lanes.blue)

-- the lanes one after another
pub record Laid (lanes : Lanes) (n : ℕ) (times from strides : List ℕ) : Type 0 where
  pub times_long : length times ≡ n
  pub from_long : length from ≡ n
  pub strides_long : length strides ≡ n
  pub times_are : (j : ℕ) → j < n → get_or times j 0 ≡ (lane_at lanes j).times
  pub from_are : (j : ℕ) → j < n → get_or from j 0 ≡ (lane_at lanes j).from
  pub strides_are : (j : ℕ) → j < n → get_or strides j 0 ≡ (lane_at lanes j).stride

-- room for n codes, and numbers of 32 bits, or of so many that they leave room for spots
pub record Roomy (n : ℕ) (times from strides : List ℕ) (keys starts : ℕ) : Type 0 where
  pub times_long : n ≤ length times
  pub from_long : n ≤ length from
  pub strides_long : n ≤ length strides
  pub keys_long : n ≤ keys
  pub starts_long : n ≤ starts
  pub slow : (j : ℕ) → j < n → get_or times j 0 < 4_294_967_296
  pub near : (j : ℕ) → j < n → get_or from j 0 ≤ 1_152_921_504_606_846_976
  pub short : (j : ℕ) → j < n → get_or strides j 0 < 4_294_967_296

-- of one code, by the numbers of its lane
abbrev pub spot_at : ℕ → ℕ → ℕ → ℕ
spot_at c times from = c * times + from

abbrev pub key_at : ℕ → ℕ → ℕ → ℕ
key_at den spot stride = (spot % 4_294_967_296 * den + 4_294_967_295) / 4_294_967_296 * 4_294_967_296 + stride

abbrev pub start_at : ℕ → ℕ → ℕ
start_at spot stride = spot / 4_294_967_296 * stride

-- of the code at a place of a block
abbrev pub spot_in : List ℕ → List ℕ → List ℕ → ℕ → ℕ
spot_in codes times from j = spot_at (get_or codes j 0) (get_or times j 0) (get_or from j 0)

pub record Spotted (den : ℕ) (codes times from strides keys starts : List ℕ) : Type 0 where
  pub keys_are : (j : ℕ) → j < length codes → get_or keys j 0 ≡ key_at den (spot_in codes times from j) (get_or strides j 0)
  pub starts_are : (j : ℕ) → j < length codes → get_or starts j 0 ≡ start_at (spot_in codes times from j) (get_or strides j 0)
