-- Document 01, "Interpolation".
use Rattle.std.specs.Prelude.{ℕ, ◌+◌, ◌-◌, ◌*◌, ◌/◌, min, Bool, cond, ◌&&◌, List, [], ◌∷◌, map, leb, ltb, ℤ, pos, ◌-ℤ◌, ◌*ℤ◌}
use Rattle.whole.specs.Integers.{up}
use Rattle.whole.specs.Nearest.{code, weighed_sum}
use Rattle.rules.specs.Units.{sample_one, bound_one, row_at, stride, sample_at, code_in}
use Rattle.rules.specs.Descriptions.{domain, width, span}
use Rattle.rules.specs.declared.Codes.{Codes}
use Rattle.rules.specs.declared.Colour.{Colour}
use Rattle.rules.specs.declared.Colour.TheVariants.{Red, Green, Blue}
use Rattle.rules.specs.declared.Description.{Description}
use Rattle.rules.specs.declared.Domain.{Domain}
use Rattle.rules.specs.declared.Kind.{Kind}
use Rattle.rules.specs.declared.Kind.TheVariants.{OneD, ThreeD}
use Rattle.rules.specs.declared.Share.{Share}

-- ---- the position of one colour with code c, by its own domain; m is M, den is the D of that domain

module _ (m : ℕ) (dom : Domain) where
  -- D = M·w
  abbrev pub den : ℕ
  den = m * width dom

  -- a: 1000·c − lo·M, moved to 0 if less and to D if more
  unfoldable pub offset : ℕ → ℕ
  offset c = min den (up (pos (bound_one * c) -ℤ (pos m *ℤ dom.lower.0)))

  -- p = a·(N−1)
  unfoldable pub position : ℕ → ℕ → ℕ
  position n c = offset c * (n - 1)

  -- i: the smaller of p div D and N−2
  unfoldable pub index : ℕ → ℕ → ℕ
  index n c = min (position n c / den) (n - 2)

  -- f = p − i·D
  unfoldable pub fraction : ℕ → ℕ → ℕ
  fraction n c = position n c - index n c * den

-- ---- rows and weights

abbrev pub share : ℕ → ℕ → Share
share row weight = record { row = row; weight = pos weight }

-- 1D: rows i and i+1, weights D−f and f
unfoldable pub pair_by : ℕ → ℕ → ℕ → List Share
pair_by den i f = share i (den - f) ∷ share (i + 1) f ∷ []

-- 3D: an order of the axes
pub data Order : Type 0 where
  rgb rbg grb gbr brg bgr : Order

abbrev pub 1st : Order → Colour
1st rgb = Red
1st rbg = Red
1st grb = Green
1st gbr = Green
1st brg = Blue
1st bgr = Blue

abbrev pub 2nd : Order → Colour
2nd rgb = Green
2nd rbg = Blue
2nd grb = Red
2nd gbr = Blue
2nd brg = Red
2nd bgr = Green

abbrev pub 3rd : Order → Colour
3rd rgb = Blue
3rd rbg = Green
3rd grb = Blue
3rd gbr = Red
3rd brg = Green
3rd bgr = Red

-- as the chart compares two fractions
infix 50 ◌at_least◌ ◌above◌
abbrev pub ◌at_least◌ : ℕ → ℕ → Bool
x at_least y = leb y x

abbrev pub ◌above◌ : ℕ → ℕ → Bool
x above y = ltb y x

-- Document 02, Req 03: the wall chart. An order's line is its whole condition on the fractions of red, green and blue: the greatest stands first, and
-- equal ones stand red, green, blue.
unfoldable pub chart : ℕ → ℕ → ℕ → Order → Bool
chart r g b rgb = r at_least g && g at_least b
chart r g b rbg = r at_least b && b above g
chart r g b grb = g above r && r at_least b
chart r g b gbr = g at_least b && b above r
chart r g b brg = b above r && r at_least g
chart r g b bgr = b above g && g above r

-- the first of some orders that passes a test; the last of all where none does, which no three fractions come to
abbrev pub first_of : (Order → Bool) → List Order → Order
first_of test [] = bgr
first_of test (o ∷ os) = cond (test o) o (first_of test os)

-- the order whose line holds. The six are tried one after another; exactly one holds, for any three fractions.
unfoldable pub order : (Colour → ℕ) → Order
order f = first_of (chart (f Red) (f Green) (f Blue)) (rgb ∷ rbg ∷ grb ∷ gbr ∷ brg ∷ bgr ∷ [])

-- four rows from a start, by three steps: weights D − f1, f1 − f2, f2 − f3, f3
unfoldable pub climb : ℕ → ℕ → ℕ → ℕ → ℕ → ℕ → ℕ → ℕ → List Share
climb start den f1 f2 f3 s1 s2 s3 =
    share start (den - f1)
    ∷ share (start + s1) (f1 - f2)
    ∷ share (start + s1 + s2) (f2 - f3)
    ∷ share (start + s1 + s2 + s3) f3
    ∷ []

-- from the row of the three i, one index up along each axis in that order
unfoldable pub path_by : ℕ → ℕ → (Colour → ℕ) → (Colour → ℕ) → Order → List Share
path_by n den i f o =
    climb (row_at n i) den (f (1st o)) (f (2nd o)) (f (3rd o)) (stride n (1st o)) (stride n (2nd o)) (stride n (3rd o))

-- ---- what a pixel has by this rule; m is the M of the pixel's own codes

-- D, what the weights of a colour add up to: M times its span
abbrev pub den_of : Description → ℕ → Colour → ℕ
den_of d m c = m * span d c

-- Document 02, Req 07: so many parts of one D, brought to another. What is brought here goes in without a rest (`position-exact`, `fraction-exact`), and
-- where the two D are one it is what it was (`brought-same`).
unfoldable pub brought : ℕ → ℕ → ℕ → ℕ
brought own common x = x * common / own

-- of one colour with a code: each comes from the colour's own domain, and stands over the D of the weights
module _ (d : Description) (m : ℕ) (c : Colour) (code : ℕ) where
  abbrev pub position_at : ℕ
  position_at = brought (den m (domain d c)) (den_of d m c) (position m (domain d c) d.n code)

  abbrev pub index_at : ℕ
  index_at = index m (domain d c) d.n code

  abbrev pub fraction_at : ℕ
  fraction_at = brought (den m (domain d c)) (den_of d m c) (fraction m (domain d c) d.n code)

  -- 1D: the two rows
  abbrev pub pair_at : List Share
  pair_at = pair_by (den_of d m c) index_at fraction_at

module _ (d : Description) (m : ℕ) (pixel : Codes) where
  abbrev pub position_of : Colour → ℕ
  position_of c = position_at d m c (code_in pixel c)

  abbrev pub index_of : Colour → ℕ
  index_of c = index_at d m c (code_in pixel c)

  abbrev pub fraction_of : Colour → ℕ
  fraction_of c = fraction_at d m c (code_in pixel c)

  -- 1D: each colour has its own D, and is a matter of its own code alone
  unfoldable pub pair : Colour → List Share
  pair c = pair_at d m c (code_in pixel c)

  -- 3D: along the axes in an order; the three colours have one span, so one D
  abbrev pub path_in : Order → List Share
  path_in o = path_by d.n (den_of d m Red) index_of fraction_of o

  -- in the order of the fractions
  unfoldable pub path : List Share
  path = path_in (order fraction_of)

  -- the rows and weights that make a colour's code
  abbrev pub shares_for : Kind → Colour → List Share
  shares_for OneD c = pair c
  shares_for ThreeD c = path

-- ---- the exact value and its code

-- the weights of shares, and their rows' samples of a colour
abbrev pub weighed : List ℤ → Colour → List Share → List (ℤ × ℤ)
weighed table c ss = map (λ (s : Share). (s.weight, sample_at table s.row c)) ss

-- S, the sum of weight times sample
abbrev pub total : List ℤ → Colour → List Share → ℤ
total table c ss = weighed_sum (weighed table c ss)

-- the exact value is S / (D·10,000,000)
abbrev pub denominator : ℕ → ℕ
denominator den = den * sample_one

-- as a code it is that times M; the code given is the nearest from 0 to M, the greater of two equally near.
-- Here m is the M of the corrected codes, and den is what the weights add up to.
unfoldable pub code_by : ℕ → ℕ → List ℤ → Colour → List Share → ℕ
code_by m den table c ss = code (pos m *ℤ total table c ss) (denominator den) m

-- a row's code is the code so given where that row alone carries the weight
abbrev pub row_code : ℕ → ℕ → List ℤ → Colour → ℕ → ℕ
row_code m den table c row = code_by m den table c (share row den ∷ [])
