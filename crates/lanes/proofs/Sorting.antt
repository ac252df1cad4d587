-- Three keys by greater and lesser alone, without a branch: each of the three that come out is the key of a colour, one for each place of an order. Keys in order
-- have fractions in order, and the three strides lead as far across in any order.
use Prim.Native.Nat.{ℕ, ◌+◌, ◌-◌, ◌/◌, ◌%◌, ◌≤◌, min, max}
use mathlib.Core.Path.{◌≡◌, refl, sym, ap, ◌∙◌}
use native.Mathlib.Decide.{dec_le}
use native.Mathlib.Omega.{arith}
use lib.IntN.{pos}
use Rattle.rules.specs.Looking.Interpolation.{Order, rgb, rbg, grb, gbr, brg, bgr, 1st, 2nd, 3rd}
use Rattle.rules.specs.Looking.Readings.{Descends}
use Rattle.rules.specs.declared.Colour.{Colour}
use Rattle.rules.specs.declared.Colour.TheVariants.{Red, Green, Blue}
use Rattle.lanes.specs.Paths.{fraction_in, stride_in, Keyed, CornerIs, Climbs}
use Rattle.lanes.specs.declared.path.Corner.{Corner}
use Rattle.lanes.specs.declared.path.Path.{Path}

-- ---- the keys

-- the keys of an order in which they do not increase
pub record Sorted (keys : Colour → ℕ) (one two last : ℕ) : Type 0 where
  pub order : Order
  pub one-is : one ≡ keys (1st order)
  pub two_is : two ≡ keys (2nd order)
  pub last-is : last ≡ keys (3rd order)
  pub descends : Descends keys order

pub sorted : (keys : Colour → ℕ) {upper lower one middle two last : ℕ} → upper ≡ max (keys Red) (keys Green) → lower ≡ min (keys Red) (keys Green)
    → one ≡ max upper (keys Blue) → middle ≡ min upper (keys Blue) → two ≡ max lower middle → last ≡ min lower middle → Sorted keys one two last
sorted keys {upper} {lower} {one} {middle} {two} {last} eu el e1 em e2 e3 =
    by (dec_le (keys Green) (keys Red)) (dec_le (keys Blue) (keys Green)) (dec_le (keys Blue) (keys Red))
  where
    in_order : (o : Order) → (one ≡ keys (1st o)) × ((two ≡ keys (2nd o)) × ((last ≡ keys (3rd o)) × Descends keys o)) → Sorted keys one two last
    in_order o (i1, (i2, (i3, d))) = record { order = o; one-is = i1; two_is = i2; last-is = i3; descends = d }

    by : Dec (keys Green ≤ keys Red) → Dec (keys Blue ≤ keys Green) → Dec (keys Blue ≤ keys Red) → Sorted keys one two last
    by (yes gr) (yes bg) _ = in_order rgb (omega arith)
    by (yes gr) (no bg) (yes br) = in_order rbg (omega arith)
    by (yes gr) (no bg) (no br) = in_order brg (omega arith)
    by (no gr) _ (yes br) = in_order grb (omega arith)
    by (no gr) (yes bg) (no br) = in_order gbr (omega arith)
    by (no gr) (no bg) (no br) = in_order bgr (omega arith)

-- ---- what they hold

pub fractions-descend : {keys : Colour → ℕ} {o : Order} → Descends keys o → Descends (fraction_in keys) o
fractions-descend d = record { upper = omega (arith, d.upper); lower = omega (arith, d.lower) }

pub any_order : (s : Colour → ℕ) (o : Order) → s (1st o) + s (2nd o) + s (3rd o) ≡ s Red + s Green + s Blue
any_order s rgb = refl
any_order s rbg = omega arith
any_order s grb = omega arith
any_order s gbr = omega arith
any_order s brg = omega arith
any_order s bgr = omega arith

-- ---- the path

-- fractions that do not increase, and strides that lead across
pub record Stepped (den across one two last : ℕ) : Type 0 where
  pub first : one / 4_294_967_296 ≤ den
  pub second : two / 4_294_967_296 ≤ one / 4_294_967_296
  pub third : last / 4_294_967_296 ≤ two / 4_294_967_296
  pub strides : one % 4_294_967_296 + two % 4_294_967_296 + last % 4_294_967_296 ≡ across

module _ {den across start one two last : ℕ} {keys : Colour → ℕ} (k : Keyed den across start keys) (s : Sorted keys one two last) where
  pub stepped : Stepped den across one two last
  stepped =
      let o = s.order in
      let d = fractions-descend s.descends in
      record {
        first = omega (arith, s.one-is, k.part (1st o));
        second = omega (arith, s.one-is, s.two_is, d.upper);
        third = omega (arith, s.two_is, s.last-is, d.lower);
        strides = rw (s.one-is, s.two_is, s.last-is) (any_order (stride_in keys) o ∙ sym k.across_is);
      }

  -- the third place is one stride short of the end
  pub climbs : {path : Path} → CornerIs start (den - one / 4_294_967_296) path.first
      → CornerIs (start + one % 4_294_967_296) (one / 4_294_967_296 - two / 4_294_967_296) path.second
      → CornerIs (start + across - last % 4_294_967_296) (two / 4_294_967_296 - last / 4_294_967_296) path.third
      → CornerIs (start + across) (last / 4_294_967_296) path.fourth → Climbs start den keys path
  climbs a b c d =
      record {
        order = s.order;
        descends = fractions-descend s.descends;
        first = corner-of a refl (omega (arith, s.one-is));
        second = corner-of b (omega (arith, s.one-is)) (omega (arith, s.one-is, s.two_is));
        third = corner-of c (omega (arith, stepped.strides, s.one-is, s.two_is)) (omega (arith, s.two_is, s.last-is));
        fourth = corner-of d (omega (arith, stepped.strides, s.one-is, s.two_is, s.last-is)) (omega (arith, s.last-is));
      }
    where
      corner-of : {p q w v : ℕ} {corner : Corner} → CornerIs p w corner → p ≡ q → w ≡ v → CornerIs q v corner
      corner-of h place weight = record { place_is = h.place_is ∙ place; weight_is = h.weight_is ∙ ap pos weight }
