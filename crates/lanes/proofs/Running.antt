-- A lane reads its positions. Where c is the code and y its spot, y·D falls short of 2 ^ 32 times the position by e = c·short + rest, and e is below 2 ^ 32.
-- With y = i·2 ^ 32 + r the position is i·D and what r·D over 2 ^ 32 is, rounded up; r is below 2 ^ 32, so that this is at most D. The spot lies before the
-- end of the cells, since something is wanting at every code but 0, and code 0 is not at the end.
use Prim.Native.Nat.{ℕ, zero, suc, ◌+◌, ◌*◌, ◌/◌, ◌%◌, ◌≤◌, ◌<◌}
use mathlib.Core.Path.{◌≡◌, ap, ◌∙◌}
use native.Mathlib.Nat as NatL
use native.Mathlib.Omega.{arith}
use Rattle.rules.specs.Looking.Readings.{Reading}
use Rattle.lanes.specs.Lanes.{spot_of, index_by, fraction_by, RunsAlong}
use Rattle.lanes.specs.declared.lane.Lane.{Lane}

module _ {m cells den a b : ℕ} {lane : Lane} (r : RunsAlong m cells den a b lane) where
  abbrev wanting : ℕ → ℕ
  wanting c = c * r.short + r.rest

  abbrev position : ℕ → ℕ
  position c = a * c + b

  spot-falls-short : (c : ℕ) → spot_of lane c * den + wanting c ≡ 4_294_967_296 * position c
  spot-falls-short c =
      omega (
        arith,
        r.from_is,
        NatL.add-mul (c * lane.times) lane.from den,
        NatL.mul_assoc c lane.times den,
        NatL.mul-add c (lane.times * den) r.short,
        ap (λ x. c * x) r.times_is ∙ NatL.mul_left_comm c 4_294_967_296 a,
        NatL.mul_comm c a,
      )

  wanting-little : (c : ℕ) → c ≤ m → wanting c < 4_294_967_296
  wanting-little c h = omega (arith, r.little, NatL.mul-le-mul_right r.short h)

  -- a spot's whole cells, and what is left
  spot-parts : (c : ℕ) → spot_of lane c * den ≡ 4_294_967_296 * (index_by lane c * den) + spot_of lane c % 4_294_967_296 * den
  spot-parts c =
      let y = spot_of lane c in
      let whole : y ≡ 4_294_967_296 * (y / 4_294_967_296) + y % 4_294_967_296 = omega arith in
      ap (λ x. x * den) whole
      ∙ NatL.add-mul (4_294_967_296 * (y / 4_294_967_296)) (y % 4_294_967_296) den
      ∙ ap (λ x. x + y % 4_294_967_296 * den) (NatL.mul_assoc 4_294_967_296 (y / 4_294_967_296) den)

  -- code 0 is not at the end: there are codes above it, and each is further on
  some-each : 0 < a * m
  some-each = NatL.mul-pos (omega (arith, r.times_is, r.some)) r.deep

  spot-before-end : (c : ℕ) → c ≤ m → spot_of lane c * den < 4_294_967_296 * cells * den
  spot-before-end zero h = omega (arith, spot-falls-short 0, some-each, r.inside, NatL.mul_assoc 4_294_967_296 cells den, NatL.mul-zero a)
  spot-before-end (suc c) h =
      omega (
        arith,
        spot-falls-short (suc c),
        r.some,
        r.inside,
        NatL.suc-mul c r.short,
        NatL.mul-le-mul_left a h,
        NatL.mul_assoc 4_294_967_296 cells den,
      )

  pub runs-read : (c : ℕ) → c ≤ m → Reading (suc cells) den (a * c + b) (index_by lane c) (fraction_by den lane c)
  runs-read c h =
      let left = spot_of lane c % 4_294_967_296 in
      let little : left ≤ 4_294_967_295 = omega arith in
      record {
        cell = omega (arith, NatL.lt_of_mul-lt-mul_right den (spot-before-end c h));
        part = omega (arith, NatL.mul-le-mul_right den little);
        place = omega (arith, spot-falls-short c, wanting-little c h, spot-parts c);
      }
