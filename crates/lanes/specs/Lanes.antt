-- A lane: where the codes of one colour stand, by one product.
use Rattle.std.specs.Prelude.{ℕ, ◌+◌, ◌*◌, ◌/◌, ◌%◌, ◌≤◌, ◌<◌, ◌≡◌, Option, IfSome}
use Rattle.lanes.specs.declared.lane.Lane.{Lane}

-- ---- what is made of a code

-- the position in cells, times 2 ^ 32
abbrev pub spot_of : Lane → ℕ → ℕ
spot_of lane c = c * lane.times + lane.from

abbrev pub index_by : Lane → ℕ → ℕ
index_by lane c = spot_of lane c / 4_294_967_296

-- over D, rounded up
abbrev pub fraction_by : ℕ → Lane → ℕ → ℕ
fraction_by den lane c = (spot_of lane c % 4_294_967_296 * den + 4_294_967_295) / 4_294_967_296

-- the fraction and the stride in one number, in the order of the fractions
abbrev pub key_by : ℕ → Lane → ℕ → ℕ
key_by den lane c = fraction_by den lane c * 4_294_967_296 + lane.stride

-- how many places the index is from the first row
abbrev pub offset_by : Lane → ℕ → ℕ
offset_by lane c = index_by lane c * lane.stride

-- ---- what makes it exact

-- a lane of positions a·c + b over den, for codes c up to m in so many cells: in each spot less than a part of den is wanting
pub record RunsAlong (m cells den a b : ℕ) (lane : Lane) : Type 0 where
  -- so much is wanting at each code more, and at code 0
  pub short : ℕ
  pub rest : ℕ
  pub times_is : lane.times * den + short ≡ 4_294_967_296 * a
  pub from_is : lane.from * den + rest ≡ 4_294_967_296 * b
  pub some : 0 < short
  pub little : m * short + rest < 4_294_967_296
  -- and no code is outside the cells
  pub inside : a * m + b ≤ cells * den
  pub deep : 0 < m
  pub wide : 0 < den
  pub narrow : den ≤ 2_147_483_648
  pub slow : lane.times < 4_294_967_296
  pub near : lane.from ≤ 4_294_967_296 * cells

abbrev pub RunsIf : ℕ → ℕ → ℕ → ℕ → ℕ → ℕ → Option Lane → Type 0
RunsIf m cells den a b stride found = IfSome found (λ lane. RunsAlong m cells den a b lane × (lane.stride ≡ stride))
