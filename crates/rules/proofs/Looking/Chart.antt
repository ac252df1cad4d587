-- The wall chart: of any three fractions the line of one order holds and no other, and that order is the rule's, the greatest first and equal ones red, green,
-- blue. So the order in which the six lines are tried decides nothing.
use Prim.Native.Nat.{ℕ, ◌≤◌, ◌<◌}
use mathlib.Core.Path.{◌≡◌, sym, subst}
use mathlib.Core.Bool.{true}
use lib.Dec.{leb, ltb}
use native.Mathlib.Decide.{dec_le}
use native.Mathlib.Numerals.{lt_of_le_of_ne}
use native.Mathlib.Omega.{arith}
use borrow.Author.Tests.{leb-true, ltb-true, le-leb, lt-leb, lt-ltb, le-ltb}
use Rattle.rules.specs.Units.{colour_place}
use Rattle.rules.specs.Looking.Interpolation.{Order, 1st, 2nd, 3rd, rgb, rbg, grb, gbr, brg, bgr, chart, order}
use Rattle.rules.specs.Looking.Readings.{ByRule}
use Rattle.rules.specs.declared.Colour.{Colour}
use Rattle.rules.specs.declared.Colour.TheVariants.{Red, Green, Blue}
use Rattle.rules.proofs.Tests.{and_both, both-and}

module _ (f : Colour → ℕ) where
  abbrev r : ℕ
  r = f Red

  abbrev g : ℕ
  g = f Green

  abbrev b : ℕ
  b = f Blue

  -- the order's line of the chart holds
  abbrev pub OnLine : Order → Type 0
  OnLine o = chart r g b o ≡ true

  -- what it says of the three
  abbrev pub Says : Order → Type 0
  Says rgb = (g ≤ r) × (b ≤ g)
  Says rbg = (b ≤ r) × (g < b)
  Says grb = (r < g) × (b ≤ r)
  Says gbr = (b ≤ g) × (r < b)
  Says brg = (r < b) × (g ≤ r)
  Says bgr = (g < b) × (r < g)

  pub line-says : (o : Order) → OnLine o → Says o
  unfolding chart
  line-says rgb h = let (p, q) = and_both (leb g r) (leb b g) h in (leb-true g r p, leb-true b g q)
  line-says rbg h = let (p, q) = and_both (leb b r) (ltb g b) h in (leb-true b r p, ltb-true g b q)
  line-says grb h = let (p, q) = and_both (ltb r g) (leb b r) h in (ltb-true r g p, leb-true b r q)
  line-says gbr h = let (p, q) = and_both (leb b g) (ltb r b) h in (leb-true b g p, ltb-true r b q)
  line-says brg h = let (p, q) = and_both (ltb r b) (leb g r) h in (ltb-true r b p, leb-true g r q)
  line-says bgr h = let (p, q) = and_both (ltb g b) (ltb r g) h in (ltb-true g b p, ltb-true r g q)

  pub says-line : (o : Order) → Says o → OnLine o
  unfolding chart
  says-line rgb (p, q) = both-and (leb g r) (leb b g) (le-leb g r p) (le-leb b g q)
  says-line rbg (p, q) = both-and (leb b r) (ltb g b) (le-leb b r p) (lt-ltb g b q)
  says-line grb (p, q) = both-and (ltb r g) (leb b r) (lt-ltb r g p) (le-leb b r q)
  says-line gbr (p, q) = both-and (leb b g) (ltb r b) (le-leb b g p) (lt-ltb r b q)
  says-line brg (p, q) = both-and (ltb r b) (leb g r) (lt-ltb r b p) (le-leb g r q)
  says-line bgr (p, q) = both-and (ltb g b) (ltb r g) (lt-ltb g b p) (lt-ltb r g q)

  -- ---- a line is the rule

  says-rule : (o : Order) → Says o → ByRule f o
  says-rule rgb (p, q) = omega arith
  says-rule rbg (p, q) = omega arith
  says-rule grb (p, q) = omega arith
  says-rule gbr (p, q) = omega arith
  says-rule brg (p, q) = omega arith
  says-rule bgr (p, q) = omega arith

  pub line-rule : (o : Order) → OnLine o → ByRule f o
  line-rule o h = says-rule o (line-says o h)

  -- two that are not in the order red, green, blue are not equal
  below-1st : (o : Order) → ByRule f o → colour_place (2nd o) ≤ colour_place (1st o) → f (2nd o) < f (1st o)
  below-1st o h out = lt_of_le_of_ne h.descends.upper (λ e. omega (arith, out, h.upper (sym e)))

  below-2nd : (o : Order) → ByRule f o → colour_place (3rd o) ≤ colour_place (2nd o) → f (3rd o) < f (2nd o)
  below-2nd o h out = lt_of_le_of_ne h.descends.lower (λ e. omega (arith, out, h.lower (sym e)))

  rule-says : (o : Order) → ByRule f o → Says o
  rule-says rgb h = (h.descends.upper, h.descends.lower)
  rule-says rbg h = (h.descends.upper, below-2nd rbg h (omega arith))
  rule-says grb h = (below-1st grb h (omega arith), h.descends.lower)
  rule-says gbr h = (h.descends.upper, below-2nd gbr h (omega arith))
  rule-says brg h = (below-1st brg h (omega arith), h.descends.lower)
  rule-says bgr h = (below-1st bgr h (omega arith), below-2nd bgr h (omega arith))

  pub rule-line : (o : Order) → ByRule f o → OnLine o
  rule-line o h = says-line o (rule-says o h)

  -- ---- no line is missed

  said-by : Dec (g ≤ r) → Dec (b ≤ g) → Dec (b ≤ r) → (o : Order) × Says o
  said-by (yes p) (yes q) t = (rgb, (p, q))
  said-by (yes p) (no q) (yes t) = (rbg, (t, omega arith))
  said-by (yes p) (no q) (no t) = (brg, (omega arith, p))
  said-by (no p) q (yes t) = (grb, (omega arith, t))
  said-by (no p) (yes q) (no t) = (gbr, (q, omega arith))
  said-by (no p) (no q) (no t) = (bgr, (omega arith, omega arith))

  pub none-missed : (o : Order) × OnLine o
  none-missed = let (o, s) = said-by (dec_le g r) (dec_le b g) (dec_le b r) in (o, says-line o s)

  -- ---- no two lines hold

  -- the first line to hold is this one: those that are tried before it fail
  pub says-order : (o : Order) → Says o → order f ≡ o
  unfolding order chart
  says-order rgb (p, q) = rw (le-leb g r p, le-leb b g q)
  says-order rbg (p, q) = rw (le-leb g r (omega arith), lt-leb b g q, le-leb b r p, lt-ltb g b q)
  says-order grb (p, q) = rw (lt-leb g r p, le-leb b r q, le-ltb g b (omega arith), lt-ltb r g p)
  says-order gbr (p, q) = rw (lt-leb g r (omega arith), lt-leb b r q, lt-ltb r g (omega arith), le-leb b g p, lt-ltb r b q)
  says-order brg (p, q) = rw (le-leb g r q, lt-leb b g (omega arith), lt-leb b r p, le-ltb r g q, lt-ltb r b p)
  says-order bgr (p, q) = rw (lt-leb g r q, lt-leb b r (omega arith), lt-ltb r g q, lt-leb b g p, lt-ltb r b (omega arith), lt-ltb g b p)

  pub line-order : (o : Order) → OnLine o → order f ≡ o
  line-order o h = says-order o (line-says o h)

  pub order-line : OnLine (order f)
  order-line = let (o, h) = none-missed in subst OnLine (sym (line-order o h)) h

  -- ---- the order is the rule's

  pub order-rule : ByRule f (order f)
  order-rule = line-rule (order f) order-line
