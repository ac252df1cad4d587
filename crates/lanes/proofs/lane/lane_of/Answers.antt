use Prim.Native.Nat.{ℕ, ◌+◌, ◌-◌, ◌*◌, ◌/◌, ◌%◌, ◌≤◌, ◌<◌}
use mathlib.Core.Path.{refl}
use native.Mathlib.Nat as NatL
use native.Mathlib.Omega.{arith}
use Rattle.lanes.specs.Lanes.{RunsAlong}
use Rattle.lanes.specs.declared.lane.Lane.{Lane}
use Rattle.lanes.proofs.lane.lane_of.Goals as goal

-- a, b and D are at most 2^31, so that all products fit. What is wanting at a code more is what the quotient leaves of 2^32·a − 1, and one; at code 0
-- it is what it leaves of 2^32·b.
-- what is wanting at a code more, and at code 0
abbrev short_of : ℕ → ℕ → ℕ
short_of den a = (4_294_967_296 * a - 1) % den + 1

abbrev rest_of : ℕ → ℕ → ℕ
rest_of den b = 4_294_967_296 * b % den

-- ---- the lane
module _ (m cells den a b stride : ℕ) where
  abbrev made : Lane
  made = record { times = (4_294_967_296 * a - 1) / den; from = 4_294_967_296 * b / den; stride = stride }

  from-most : b ≤ cells * den → made.from ≤ 4_294_967_296 * cells
  from-most h = NatL.div-le_of_le-mul den (omega (arith, h, NatL.mul_left_comm den 4_294_967_296 cells, NatL.mul_comm den cells))

  runs-along : 0 < m → 0 < den → 0 < a → den ≤ 2_147_483_648 → a * m + b ≤ cells * den → made.times < 4_294_967_296
      → m * short_of den a + rest_of den b < 4_294_967_296 → RunsAlong m cells den a b made
  runs-along deep wide some narrow inside slow little =
      record {
        short = short_of den a;
        rest = rest_of den b;
        times_is = omega (arith, NatL.div-add-mod' (4_294_967_296 * a - 1) den);
        from_is = NatL.div-add-mod' (4_294_967_296 * b) den;
        some = omega arith;
        little = little;
        inside = inside;
        deep = deep;
        wide = wide;
        narrow = narrow;
        slow = slow;
        near = from-most (omega (arith, inside));
      }

pub returns : goal.returns
returns c =
    let a = c.args in
    let some : 0 < a.a = omega (arith, c.if-a-eq0.false) in
    -- without the test's name, so that a wrong test is refused for what it says
    let little : a.m * short_of a.den a.a + rest_of a.den a.b < 4_294_967_296 = omega arith in (
      runs-along a.m a.cells a.den a.a a.b a.stride c.requires.m_nonzero c.requires.den_nonzero some c.if-den-gt-MOST.false c.if-a-m.false c.if-times-ge-WHOLE.false little,
      refl,
    )
