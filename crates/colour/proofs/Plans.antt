-- What the plan of a description that could have been read says: how great its numbers are, that its places are those of the rule, and that so are
-- the rows and weights by it.
use Prim.Native.Nat.{ℕ, suc, ◌+◌, ◌-◌, ◌*◌, ◌≤◌, ◌<◌}
use mathlib.Core.Path.{◌≡◌, refl, sym, ap, ap₂, subst, ◌∙◌}
use mathlib.Core.Bool.{true}
use mathlib.Core.List.{List}
use native.Mathlib.Nat as NatL
use native.Mathlib.Omega.{arith}
use lib.IntN.{ℤ, pos, nat_abs, ◌*ℤ◌}
use Rattle.whole.proofs.Halves.{product-abs}
use Rattle.whole.proofs.Held.{quot-size}
use Rattle.rules.specs.Units.{depths_of, raw_m, corrected_m, sample_one, sample_limit, bound_one, bound_limit, width_limit, rows_of, row_limit, row_at, stride}
use Rattle.rules.specs.Descriptions.{rows, domain, width, span, could_be_read, Sound, DomainFits}
use Rattle.rules.specs.Looking.Interpolation.{denominator, den_of, position_at, index_at, fraction_at, position_of, index_of, fraction_of, rgb, climb, path_by, pair, path, pair_at, code_by}
use Rattle.rules.specs.Looking.{six, shown, line_code}
use Rattle.rules.specs.Looking.Readings.{Reading}
use Rattle.rules.specs.declared.Bits.{Bits}
use Rattle.rules.specs.declared.Codes.{Codes}
use Rattle.rules.specs.declared.Colour.{Colour}
use Rattle.rules.specs.declared.Colour.TheVariants.{Red, Green, Blue}
use Rattle.rules.specs.declared.Depths.{Depths}
use Rattle.rules.specs.declared.Description.{Description}
use Rattle.rules.specs.declared.Domain.{Domain}
use Rattle.rules.specs.declared.Kind.{Kind}
use Rattle.rules.specs.declared.Kind.TheVariants.{OneD, ThreeD}
use Rattle.rules.specs.declared.Shares.{Shares}
use Rattle.rules.proofs.KnownDepths.{depths-bounds}
use Rattle.rules.proofs.Sound.{sound-of, wide_enough, rows-most, greatest-most}
use Rattle.rules.proofs.Looking.Spans.{span-some, span-most, in_parts}
use Rattle.rules.proofs.Looking.Demand3 as D3
use Rattle.rules.proofs.Looking.RowsAndWeights.{path-rows}
use Rattle.colour.specs.Limits.{den_limit, each_limit}
use Rattle.colour.specs.Ratios.{ratio_of}
use Rattle.colour.specs.Plans.{each_of, low_of, axis_of, plan_of, axis_in, rows_in, Readable, Planned}
use Rattle.colour.specs.Places.{AxisFits, CellsFit, place_of, pair_of, step_of, steps_of, StepsFit, path_by_steps, shown_by}
use Rattle.colour.specs.Adding.{Codable, Coded}
use Rattle.colour.specs.declared.plan.Plan.{Plan}
use Rattle.colour.specs.declared.shares.Steps.{Steps}
use Rattle.colour.proofs.Orders.{along-path}
use Rattle.colour.proofs.Placing.{position_on, position-is, place_is}
use Rattle.colour.proofs.Ratios.{ratio-known, crossed, all-fits}
use Rattle.std.specs.Prelude.{Some}

-- ---- a description that could have been read

pub sound : (d : Description) → (r : Readable d) → Sound d r.0
sound d r = sound-of d r.0 r.1

pub n-most : {d : Description} {table : List ℤ} → Sound d table → d.n ≤ 65536
n-most {d} s = NatL.le_trans s.most (greatest-most d.kind)

-- the parts of a span
module _ (dom : Domain) (fits : DomainFits dom) (s : ℕ) (narrow : s ≤ width_limit) where
  pub each-most : each_of dom s ≤ each_limit
  each-most = NatL.le_trans (NatL.div-le_self (bound_one * s) (width dom)) (omega arith)

  pub low-most : nat_abs (low_of dom s) ≤ 100_000_000
  low-most =
      let z = pos (each_of dom s) *ℤ dom.lower.0 in
      rw (quot-size z bound_one, product-abs)
      (NatL.div-le_of_le-mul bound_one {n = 100_000_000} (NatL.mul-le-mul {n₂ = each_limit} {m₂ = bound_limit} each-most fits.low))

-- what is at most the widest domain, times M
pub den-most : (m s : ℕ) → m ≤ 65535 → s ≤ width_limit → m * s ≤ den_limit
den-most m s most narrow = NatL.mul-le-mul {n₂ = 65535} {m₂ = width_limit} most narrow

-- M times a bound or a sample
pub times-m-most : (m : ℕ) (z : ℤ) → m < 65536 → nat_abs z ≤ sample_limit → m * nat_abs z ≤ 65535 * sample_limit
times-m-most m z most h = NatL.mul-le-mul {n₂ = 65535} {m₂ = sample_limit} (omega arith) h

-- ---- the plan of a call

abbrev pub planned : (d : Description) {table : List ℤ} (bits : Bits) {depths : Depths} {plan : Plan} → could_be_read d table ≡ true
    → depths_of bits ≡ Some depths → plan ≡ plan_of d depths → Planned plan table
planned d bits {depths = depths} could known is =
    let (raw, corrected) = depths-bounds bits depths known in
    record {
      d = d;
      depths = depths;
      could = could;
      deep = raw.0;
      most = raw.1;
      corrected_most = corrected.1;
      in_terms = ratio-known bits depths known;
      is = is;
    }

-- ---- the axes of a plan

-- what a plan says by its definition
pub axis-of : (d : Description) (depths : Depths) (c : Colour)
    → axis_in (plan_of d depths) c ≡ axis_of (domain d c) (span d c) (raw_m depths) (ratio_of depths).bottom (stride d.n c)
axis-of d depths Red = refl
axis-of d depths Green = refl
axis-of d depths Blue = refl

-- and that its positions and places are those of the rule
module _ (d : Description) {table : List ℤ} (good : Sound d table) (depths : Depths) (deep : 0 < raw_m depths) where
  abbrev raw : ℕ
  raw = raw_m depths

  position-at : (c : Colour) (code : ℕ) → position_on (axis_in (plan_of d depths) c) (d.n - 1) code ≡ position_at d raw c code
  position-at c code =
      ap (λ x. position_on x (d.n - 1) code) (axis-of d depths c)
      ∙ position-is (domain d c) (span d c) (in_parts d good c) (wide_enough (good.domains c)) raw (ratio_of depths).bottom d.n (stride d.n c) code
      (span-some d good c) deep good.least

  place-at : (c : Colour) (code : ℕ) → place_of (axis_in (plan_of d depths) c) (d.n - 1) code ≡ record { index = index_at d raw c code; fraction = fraction_at d raw c code }
  place-at c code =
      ap (λ x. place_of x (d.n - 1) code) (axis-of d depths c)
      ∙ place_is (domain d c) (span d c) (in_parts d good c) (wide_enough (good.domains c)) raw (ratio_of depths).bottom d.n (stride d.n c) code
      (span-some d good c) deep good.least

  pairs_of : (c : Colour) (code : ℕ) → pair_of (axis_in (plan_of d depths) c) (d.n - 1) code ≡ pair_at d raw c code
  unfolding pair_of
  pairs_of c code = rw (place-at c code, axis-of d depths c)

  shown_of : (pixel : Codes) (k : Kind) → shown_by (plan_of d depths) pixel k ≡ shown d raw pixel k
  unfolding shown_by shown pair path path_by_steps steps_of step_of
  shown_of pixel OneD = rw (pairs_of Red pixel.red, pairs_of Green pixel.green, pairs_of Blue pixel.blue)
  shown_of pixel ThreeD =
      rw (place-at Red pixel.red, place-at Green pixel.green, place-at Blue pixel.blue, along-path d.n (den_of d raw Red) (index_of d raw pixel) (fraction_of d raw pixel))

module _ {plan : Plan} {table : List ℤ} (p : Planned plan table) where
  abbrev d : Description
  d = p.d

  abbrev m : ℕ
  m = raw_m p.depths

  abbrev q : ℕ
  q = (ratio_of p.depths).bottom

  abbrev could-sound : Sound d table
  could-sound = sound-of d table p.could

  -- ---- its numbers

  pub kind-is : plan.kind ≡ d.kind
  kind-is = ap (λ x. x.kind) p.is

  pub rows_are : rows_in plan ≡ rows d
  rows_are = let n : suc (d.n - 1) ≡ d.n = omega (arith, could-sound.least) in ap rows_in p.is ∙ ap (rows_of d.kind) n

  pub axis-is : (c : Colour) → axis_in plan c ≡ axis_of (domain d c) (span d c) m q (stride d.n c)
  axis-is c = ap (λ x. axis_in x c) p.is ∙ axis-of d p.depths c

  pub den_is : (c : Colour) → (axis_in plan c).den ≡ den_of d m c
  den_is c = ap (λ x. x.den) (axis-is c)

  -- 3D has one D
  pub one-den : plan.kind ≡ ThreeD → (c : Colour) → plan.red.den ≡ (axis_in plan c).den
  one-den e c = den_is Red ∙ D3.one-den d m (sym kind-is ∙ e) Red c ∙ sym (den_is c)

  pub cells_fit : CellsFit plan.cells
  cells_fit = rw p.is (record { some = omega (arith, could-sound.least); most = omega (arith, n-most could-sound) })

  pub axis-fits : (c : Colour) → AxisFits (axis_in plan c)
  axis-fits c =
      let fits = could-sound.domains c in
      let narrow = span-most d could-sound c in
      rw (axis-is c)
      (record {
        each = each-most (domain d c) fits (span d c) narrow;
        low = rw product-abs (NatL.mul-le-mul {n₂ = 65535} {m₂ = 100_000_000} p.most (low-most (domain d c) fits (span d c) narrow));
        wide = NatL.mul-pos p.deep (span-some d could-sound c);
        most = den-most m (span d c) p.most narrow;
      })

  pub codable : Coded plan (corrected_m p.depths)
  codable c =
      let u = span d c * sample_one in
      let over : denominator (den_of d m c) ≡ m * u = NatL.mul_assoc m (span d c) sample_one in
      let some : 0 < u = omega (arith, span-some d could-sound c) in
      subst (λ x. Codable x.times (axis_in x c) (corrected_m p.depths)) (sym p.is)
      (rw (axis-of d p.depths c)
      (record {
        full = refl;
        wide = subst (λ x. 0 < x) (sym over) (NatL.mul-pos p.deep some);
        in_terms = ap (λ x. (ratio_of p.depths).top * x) over ∙ crossed p.in_terms u;
        divisor = refl;
        fits = subst (λ x. 2 * ((ratio_of p.depths).top * x) + q * u < 4_611_686_018_427_387_904) (sym over) (all-fits p.in_terms u (omega (arith, span-most d could-sound c)));
        least = omega (arith, NatL.mul-le-mul_right u p.in_terms.some, span-some d could-sound c);
        deepest = p.corrected_most;
      }))

  -- ---- its positions

  pub position-by : (c : Colour) (code : ℕ) → position_on (axis_in plan c) plan.cells code ≡ position_at d m c code
  position-by c code = ap (λ x. position_on (axis_in x c) x.cells code) p.is ∙ position-at d could-sound p.depths p.deep c code

  -- ---- its rows and weights

  pub shown-is : (pixel : Codes) {k : Kind} → plan.kind ≡ k → shown_by plan pixel k ≡ shown d m pixel d.kind
  shown-is pixel {k} e = ap (λ x. shown_by x pixel k) p.is ∙ shown_of d could-sound p.depths p.deep pixel k ∙ ap (shown d m pixel) (sym e ∙ kind-is)

  -- 1D: a colour's two rows, and its code, are a matter of its own axis and code alone
  pub pair_is : (c : Colour) (code : ℕ) → pair_of (axis_in plan c) plan.cells code ≡ pair_at d m c code
  pair_is c code = ap (λ x. pair_of (axis_in x c) x.cells code) p.is ∙ pairs_of d could-sound p.depths p.deep c code

  pub line-code : (c : Colour) (code : ℕ)
      → code_by (corrected_m p.depths) (axis_in plan c).den table c (pair_of (axis_in plan c) plan.cells code) ≡ line_code d table p.depths c code
  line-code c code = ap₂ (λ x y. code_by (corrected_m p.depths) x table c y) (den_is c) (pair_is c code)

  -- 3D: the path of the pixel's steps
  pub path-shown : (pixel : Codes) {steps : Steps} {r : Shares} → steps ≡ steps_of plan pixel → r ≡ six (path_by_steps steps) → r ≡ shown_by plan pixel ThreeD
  unfolding shown_by
  path-shown pixel e h = h ∙ ap (λ x. six (path_by_steps x)) e

  -- which ends at a row of the table, and whose fractions are of one D
  module _ (e : plan.kind ≡ ThreeD) (pixel : Codes) where
    reads : (c : Colour) → Reading d.n (den_of d m c) (position_of d m pixel c) (index_of d m pixel c) (fraction_of d m pixel c)
    reads = D3.reads d table m pixel p.could p.deep

    three_d : d.kind ≡ ThreeD
    three_d = sym kind-is ∙ e

    cube-most : d.n * d.n * d.n ≤ row_limit
    cube-most = subst (λ k. rows_of k d.n ≤ row_limit) three_d (rows-most d.kind d.n could-sound.most)

    end_most : row_at d.n (index_of d m pixel) + 1 + d.n + d.n * d.n ≤ row_limit
    unfolding path_by climb
    end_most = let i = index_of d m pixel in omega (arith, (path-rows d.n 0 i i rgb (λ k. (reads k).cell)).1.1.1.0, cube-most)

    part : (c : Colour) → fraction_of d m pixel c ≤ den_of d m Red
    part c = omega (arith, (reads c).part, D3.one-den d m three_d c Red)

    placed : (c : Colour) (code : ℕ) → place_of (axis_in (plan_of d p.depths) c) (d.n - 1) code ≡ record { index = index_at d m c code; fraction = fraction_at d m c code }
    placed = place-at d could-sound p.depths p.deep

    pub steps-fit : StepsFit (steps_of plan pixel)
    unfolding steps_of step_of
    steps-fit =
        subst (λ x. StepsFit (steps_of x pixel)) (sym p.is)
        (rw (placed Red pixel.red, placed Green pixel.green, placed Blue pixel.blue)
        (record { end = end_most; most = den-most m (span d Red) p.most (span-most d could-sound Red); red = part Red; green = part Green; blue = part Blue }))
