-- The piece of a cell gives the sum over D of each code in it, half a code more. With f = a·c + b − i·D the sum (D − f)·v + f·w is D·v + f·(w − v), and this is
-- a·(w − v) for each code and D·v + (b − i·D)·(w − v) at code 0. The reading by the lane is one in parts of g each: g times it is a reading of look's position,
-- and so gives look's code.
use Prim.Native.Nat.{ℕ, suc, ◌+◌, ◌-◌, ◌*◌, ◌/◌, ◌≤◌, ◌<◌}
use mathlib.Core.Path.{◌≡◌, sym, ap, ap₂, subst, ◌∙◌}
use mathlib.Core.List.{List}
use native.Mathlib.Nat as NatL
use native.Mathlib.Decide.{dec_le}
use native.Mathlib.Omega.{arith}
use lib.IntN.{ℤ, pos, neg_ℤ, nat_abs, ◌+ℤ◌, ◌-ℤ◌, ◌*ℤ◌, *ℤ_comm}
use lib.ListN.{length}
use Rattle.whole.specs.Integers.{up, dn}
use Rattle.whole.specs.Nearest.{code}
use Rattle.whole.specs.Reciprocals.{Divides}
use Rattle.whole.specs.declared.reciprocal.Reciprocal.{Reciprocal}
use Rattle.whole.proofs.Halves as H
use Rattle.whole.proofs.Reciprocals.{reciprocal-divides}
use Rattle.rules.specs.Units.{raw_m, corrected_m, sample_limit, colour_place, rows_of, sample_at}
use Rattle.rules.specs.Descriptions.{rows}
use Rattle.rules.specs.Looking.Interpolation.{den_of, position_at, index_at, fraction_at, pair_by, pair_at, total, code_by}
use Rattle.rules.specs.Looking.{line_code}
use Rattle.rules.specs.Looking.Readings.{Reading}
use Rattle.rules.specs.declared.Colour.{Colour}
use Rattle.rules.specs.declared.Depths.{Depths}
use Rattle.rules.specs.declared.Description.{Description}
use Rattle.rules.proofs.Colours.{place-below, grey, grey-code}
use Rattle.rules.proofs.Sound.{sound-of}
use Rattle.rules.proofs.Looking.Demand3 as D3
use Rattle.rules.proofs.Looking.EitherReading.{line-stairs}
use Rattle.rules.proofs.Looking.Layers.{stairs-total}
use Rattle.colour.specs.Plans.{axis_in}
use Rattle.colour.proofs.Placing.{position_on}
use Rattle.colour.proofs.Plans as P
use Rattle.colour.proofs.Lining.{line-codable}
use Rattle.lanes.specs.Lanes.{index_by, fraction_by}
use Rattle.lanes.proofs.Running.{runs-read}
use Rattle.lanes.proofs.Positions.{position_in, position-in-parts}
use Rattle.lanes.proofs.Scaled.{reading-scaled, total-scaled, pair-scaled, code-in-parts}
use Rattle.lanes.proofs.Parting.{parts-most}
use Rattle.lanes.proofs.Halving.{once-below, once-above, once-inside}
use Rattle.strips.specs.Strips.{Stripped, slope_parts, base_parts, step_of, slope_of, base_of}
use Rattle.strips.specs.declared.Strip.{Strip}

-- ---- a sum over D as a line

difference : (w v : ℤ) → up (w -ℤ v) + (dn w + up v) ≡ dn (w -ℤ v) + (up w + dn v)
difference w v = omega (arith, H.sum w (neg_ℤ v), H.neg v)

-- (D − f)·v + f·w is D·v + f·(w − v)
weighed-step : (den f : ℕ) (v w : ℤ) → f ≤ den → pos den *ℤ v +ℤ pos f *ℤ (w -ℤ v) ≡ pos (den - f) *ℤ v +ℤ (pos f *ℤ w +ℤ pos 0)
weighed-step den f v w h =
    let left = pos den *ℤ v in
    let right = pos f *ℤ (w -ℤ v) in
    let low = pos (den - f) *ℤ v in
    let high = pos f *ℤ w in
    H.eq-by (left +ℤ right) (low +ℤ (high +ℤ pos 0))
    (omega (
      arith,
      H.sum left right,
      H.sum low (high +ℤ pos 0),
      H.sum high (pos 0),
      H.times den v,
      H.times f (w -ℤ v),
      H.times (den - f) v,
      H.times f w,
      parts (up v),
      parts (dn v),
      stepped,
    ))
  where
    parts : (x : ℕ) → den * x ≡ (den - f) * x + f * x
    parts x = ap (λ k. k * x) (omega arith) ∙ NatL.add-mul (den - f) f x

    stepped : f * up (w -ℤ v) + (f * dn w + f * up v) ≡ f * dn (w -ℤ v) + (f * up w + f * dn v)
    stepped = simp NatL.mul-add at (ap (λ x. f * x) (difference w v))

-- f is made of what the code adds and of what there is at code 0
fraction-split : (x b y f : ℕ) → x + b ≡ y + f → pos x +ℤ (pos b -ℤ pos y) ≡ pos f
fraction-split x b y f e =
    H.eq-by (pos x +ℤ (pos b -ℤ pos y)) (pos f)
    (omega (arith, H.sum (pos x) (pos b -ℤ pos y), H.sum (pos b) (neg_ℤ (pos y)), H.neg (pos y)))

-- so much is due to the code
grown : (a c : ℕ) (step : ℤ) → pos a *ℤ step *ℤ pos c ≡ pos (a * c) *ℤ step
grown a c step = *ℤ_comm (pos a *ℤ step) (pos c) ∙ sym (H.mul_assoc c a step) ∙ ap (λ x. pos x *ℤ step) (NatL.mul_comm c a)

module _ (a b den i f c : ℕ) (v w : ℤ) (half : ℕ) (part : f ≤ den) (place : a * c + b ≡ i * den + f) where
  abbrev step : ℤ
  step = w -ℤ v

  abbrev start : ℤ
  start = pos b -ℤ pos (i * den)

  both : pos (a * c) *ℤ step +ℤ start *ℤ step ≡ pos f *ℤ step
  both = sym (H.add-mul (pos (a * c)) start step) ∙ ap (λ z. z *ℤ step) (fraction-split (a * c) b (i * den) f place)

  on_line : pos a *ℤ step *ℤ pos c +ℤ (pos den *ℤ v +ℤ start *ℤ step +ℤ pos half) ≡ pos (den - f) *ℤ v +ℤ (pos f *ℤ w +ℤ pos 0) +ℤ pos half
  on_line =
      let grows = pos a *ℤ step *ℤ pos c in
      let first = pos den *ℤ v in
      let from = start *ℤ step in
      let low = pos (den - f) *ℤ v in
      let high = pos f *ℤ w in
      H.eq-by (grows +ℤ (first +ℤ from +ℤ pos half)) (low +ℤ (high +ℤ pos 0) +ℤ pos half)
      (omega (
        arith,
        H.sum grows (first +ℤ from +ℤ pos half),
        H.sum (first +ℤ from) (pos half),
        H.sum first from,
        H.sum grows from,
        H.sum first (grows +ℤ from),
        ap (λ z. up (first +ℤ z)) together,
        ap (λ z. dn (first +ℤ z)) together,
        ap up (weighed-step den f v w part),
        ap dn (weighed-step den f v w part),
        H.sum (low +ℤ (high +ℤ pos 0)) (pos half),
      ))
    where
      together : pos a *ℤ step *ℤ pos c +ℤ start *ℤ step ≡ pos f *ℤ step
      together = ap (λ z. z +ℤ start *ℤ step) (grown a c step) ∙ both

-- ---- two readings of one position

one-sum : {n den p i f j h : ℕ} (table : List ℤ) (c : Colour) → Reading n den p i f → Reading n den p j h
    → total table c (pair_by den i f) ≡ total table c (pair_by den j h)
one-sum table c r q = stairs-total table c (line-stairs r) ∙ sym (stairs-total table c (line-stairs q))

-- ---- a strip

module _ {strip : Strip} {table : List ℤ} (s : Stripped strip table) where
  abbrev d : Description
  d = s.lined.planned.d

  abbrev depths : Depths
  depths = s.lined.planned.depths

  abbrev raw : ℕ
  raw = raw_m depths

  abbrev den : ℕ
  den = strip.axis.den

  abbrev colour : Colour
  colour = strip.colour

  -- ---- its line

  cells-plan : strip.cells ≡ s.lined.plan.cells
  cells-plan = s.cells_are ∙ ap (λ x. x.cells) s.lined.is

  axis-plan : s.line.axis ≡ axis_in s.lined.plan colour
  axis-plan = ap (λ x. x.axis) s.lined.is ∙ ap (axis_in s.lined.plan) (sym s.colour_is)

  n-is : suc strip.cells ≡ d.n
  n-is = omega (arith, cells-plan, ap (λ x. x.cells) s.lined.planned.is, (sound-of d table s.lined.planned.could).least)

  cells-some : 0 < strip.cells
  cells-some = omega (arith, cells-plan, (P.cells_fit s.lined.planned).some)

  rule-den : den_of d raw colour ≡ s.g * den
  rule-den = sym (P.den_is s.lined.planned colour) ∙ ap (λ x. x.den) (sym axis-plan) ∙ s.parted.den_is

  -- ---- a code of it

  module _ (c : ℕ) (inside : c ≤ raw) where
    abbrev i : ℕ
    i = index_by strip.lane c

    abbrev f : ℕ
    f = fraction_by den strip.lane c

    strip-reads : Reading (suc strip.cells) den (position_in strip.cells strip.axis c) i f
    strip-reads = runs-read s.runs c inside

    pub in_cell : i < strip.cells
    in_cell = omega (arith, strip-reads.cell)

    -- the sum over the D of parts
    abbrev pub sum_in : ℤ
    sum_in = total table colour (pair_by den i f)

    pub piece-sum : slope_of strip table i *ℤ pos c +ℤ base_of strip table i ≡ sum_in +ℤ pos strip.half
    unfolding pair_by
    piece-sum =
        on_line (slope_parts strip) (base_parts strip) den i f c (sample_at table i colour) (sample_at table (i + 1) colour) strip.half
        strip-reads.part strip-reads.place

    position-scaled : position_at d raw colour c ≡ s.g * position_in strip.cells strip.axis c
    position-scaled =
        sym (P.position-by s.lined.planned colour c)
        ∙ ap₂ (λ x n. position_on x n c) (sym axis-plan) (sym cells-plan)
        ∙ position-in-parts s.parted s.runs.inside cells-some c inside

    -- g times the reading is one of the rule's position
    reads-rule : Reading d.n (s.g * den) (position_at d raw colour c) i (s.g * f)
    reads-rule =
        subst (λ n. Reading n (s.g * den) (position_at d raw colour c) i (s.g * f)) n-is
        (subst (λ p. Reading (suc strip.cells) (s.g * den) p i (s.g * f)) (sym position-scaled) (reading-scaled s.g strip-reads))

    rule-reads : Reading d.n (s.g * den) (position_at d raw colour c) (index_at d raw colour c) (fraction_at d raw colour c)
    rule-reads =
        subst (λ x. Reading d.n x (position_at d raw colour c) (index_at d raw colour c) (fraction_at d raw colour c)) rule-den
        (subst (λ x. Reading d.n (den_of d raw colour) (position_at d raw colour x) (index_at d raw colour x) (fraction_at d raw colour x)) (grey-code c colour)
        (D3.reads d table raw (grey c) s.lined.planned.could s.lined.planned.deep colour))

    rule-sum : total table colour (pair_at d raw colour c) ≡ pos s.g *ℤ sum_in
    rule-sum =
        ap (λ x. total table colour (pair_by x (index_at d raw colour c) (fraction_at d raw colour c))) rule-den
        ∙ one-sum table colour rule-reads reads-rule
        ∙ total-scaled s.g table colour (pair-scaled s.g den i f)

    -- so that the code is the rule's
    pub strip-value : line_code d table depths colour c ≡ code (pos strip.most *ℤ sum_in) strip.axis.full strip.most
    strip-value =
        ap (λ x. code_by (corrected_m depths) x table colour (pair_at d raw colour c)) rule-den
        ∙ code-in-parts s.g den (corrected_m depths) table colour (pair_at d raw colour c) sum_in s.some rule-sum
        ∙ ap₂ (λ x m. code (pos m *ℤ sum_in) x m) (sym s.parted.full_is) (sym s.most_is)

  -- ---- the code of a sum and half a unit

  abbrev unit : ℕ
  unit = strip.axis.unit

  abbrev full : ℕ
  full = strip.axis.full

  abbrev most : ℕ
  most = strip.most

  unit-some : 0 < unit
  unit-some = omega (arith, s.parted.least)

  full-some : 0 < full
  full-some = omega (arith, s.runs.wide, s.parted.full_is)

  half-most : 2 * strip.half ≤ unit
  half-most = omega (arith, s.half_is)

  pub divides-to-top : (n : ℕ) → n ≤ strip.top → Divides strip.unit n
  divides-to-top n h =
      subst (λ r. Divides r n) (sym s.unit_is)
      (reciprocal-divides unit n strip.top (omega (arith, s.parted.least)) h s.exact)

  module _ (z : ℤ) where
    abbrev moved : ℤ
    moved = z +ℤ pos strip.half

    abbrev nearest : ℕ
    nearest = code (pos most *ℤ z) full most

    moved-is : up moved + dn z ≡ dn moved + (up z + strip.half)
    moved-is = omega (arith, H.sum z (pos strip.half))

    pub moved-below : up moved ≡ 0 → 0 ≡ nearest
    moved-below e =
        once-below most full unit s.in_terms full-some unit-some z (omega (arith, moved-is, H.split z, H.split moved))

    pub moved-above : strip.top < up moved → most ≡ nearest
    moved-above h =
        once-above most full unit s.in_terms full-some unit-some z
        (omega (arith, moved-is, H.split z, H.split moved, s.top_is))

    pub moved_inside : dn moved ≡ 0 → up moved ≤ strip.top → up moved / strip.unit.by ≡ nearest
    moved_inside e h = ap (λ (r : Reciprocal). up moved / r.by) s.unit_is ∙ by (dec_le (dn z) 0)
      where
        by : Dec (dn z ≤ 0) → up moved / unit ≡ nearest
        by (yes n) =
            ap (λ x. x / unit) (omega (arith, moved-is, s.half_is))
            ∙ once-inside most full unit s.in_terms full-some unit-some z (omega (arith, moved-is, s.top_is))
        by (no n) =
            NatL.div-eq_of_lt (omega (arith, moved-is, H.split z, half-most))
            ∙ once-below most full unit s.in_terms full-some unit-some z (omega (arith, H.split z))

  -- ---- how great the numbers are

  rows_are : rows d ≡ suc strip.cells
  rows_are = ap (λ k. rows_of k d.n) s.lined.one_d ∙ sym n-is

  module _ (j : ℕ) (h : j ≤ strip.cells) where
    pub place_inside : 3 * j + colour_place colour < length table
    place_inside = omega (arith, rows_are, place-below colour, (sound-of d table s.lined.planned.could).long)

    pub sample-most : nat_abs (sample_at table j colour) ≤ sample_limit
    sample-most = (sound-of d table s.lined.planned.could).samples (3 * j + colour_place colour) (omega (arith, rows_are, place-below colour))

  step-most : (j : ℕ) → j < strip.cells → nat_abs (step_of strip table j) ≤ 20_000_000_000
  step-most j h =
      let v = sample_at table j colour in
      let w = sample_at table (j + 1) colour in
      omega (arith, H.sum-abs w (neg_ℤ v), H.neg-abs v, sample-most j (omega arith), sample-most (j + 1) (omega arith))

  pub den-most : den ≤ 100_000_000
  den-most = omega (arith, s.small, NatL.mul-le-mul_left den cells-some)

  -- all codes together
  pub codes-most : slope_parts strip * raw + base_parts strip ≤ 100_000_000
  codes-most = omega (arith, s.runs.inside, s.small, NatL.mul_comm den strip.cells)

  pub slope-parts-most : slope_parts strip ≤ 100_000_000
  slope-parts-most = omega (arith, codes-most, NatL.mul-le-mul_left (slope_parts strip) s.runs.deep)

  pub cell-most : (j : ℕ) → j < strip.cells → j * den ≤ 100_000_000
  cell-most j h = omega (arith, s.small, NatL.mul_comm den strip.cells, NatL.mul-le-mul_right {m = j} {n = strip.cells} den (omega arith))

  pub half-small : strip.half < 2_305_843_009_213_693_952
  half-small =
      omega (arith, half-most, parts-most s.g s.line.axis.unit strip.axis.unit s.some s.parted.unit_is, (line-codable s.lined).fits)

  module _ (j : ℕ) (h : j < strip.cells) where
    pub start-most : nat_abs (pos (base_parts strip) -ℤ pos (j * den)) ≤ 100_000_000
    start-most =
        let b = pos (base_parts strip) in
        let x = pos (j * den) in
        omega (arith, H.sum b (neg_ℤ x), H.neg x, H.split (b -ℤ x), codes-most, cell-most j h)

    pub slope-most : nat_abs (slope_of strip table j) ≤ 2_000_000_000_000_000_000
    slope-most =
        let step = step_of strip table j in
        rw (H.product-abs (pos (slope_parts strip)) step) (NatL.mul-le-mul {n₂ = 100_000_000} {m₂ = 20_000_000_000} slope-parts-most (step-most j h))

    -- the code too is in what all codes come to
    pub grown-most : (c : ℕ) → c ≤ raw → nat_abs (slope_of strip table j *ℤ pos c) ≤ 2_000_000_000_000_000_000
    grown-most c inside =
        let step = step_of strip table j in
        rw (grown (slope_parts strip) c step, H.product-abs (pos (slope_parts strip * c)) step)
        (NatL.mul-le-mul {n₂ = 100_000_000} {m₂ = 20_000_000_000} (omega (arith, codes-most, NatL.mul-le-mul_left (slope_parts strip) inside)) (step-most j h))

    pub base-most : nat_abs (base_of strip table j) ≤ 5_305_843_009_213_693_952
    base-most =
        let step = step_of strip table j in
        let v = sample_at table j colour in
        let start = pos (base_parts strip) -ℤ pos (j * den) in
        let first = pos den *ℤ v in
        let from = start *ℤ step in
        omega (
          arith,
          H.sum-abs (first +ℤ from) (pos strip.half),
          H.sum-abs first from,
          H.product-abs (pos den) v,
          H.product-abs start step,
          NatL.mul-le-mul {n₂ = 100_000_000} {m₂ = sample_limit} den-most (sample-most j (omega arith)),
          NatL.mul-le-mul {n₂ = 100_000_000} {m₂ = 20_000_000_000} start-most (step-most j h),
          half-small,
        )
