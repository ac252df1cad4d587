use Prim.Native.Nat.{ℕ, ◌+◌, ◌*◌, ◌/◌, ◌≤◌, ◌<◌}
use native.Mathlib.Nat as NatL
use native.Mathlib.Omega.{arith}
use Rattle.exact.proofs.Dividing.{Dividing, next, digits-most, at-most}
use Rattle.exact.proofs.decimals.decimals_of.Goals as goal

-- the digits after one more, which fit
after-most : {rest unit most now digits count : ℕ} → rest < unit → most ≤ 15 → Dividing rest unit most now digits count → 0 < now →
    count < most → digits * 10 + now * 10 / unit < 1_000_000_000_000_000
after-most less few so here more = digits-most less (next less so here more) few

pub overflow_mul-digits : goal.overflow_mul-digits
overflow_mul-digits c = record {
  fits = omega (
    arith,
    after-most c.requires.rest_lt_unit c.requires.most_bound c.loop-count.invariant (NatL.pos_of_ne-zero c.if-left-eq0.false) c.loop-count-test.true,
  );
}

pub overflow_add-digits : goal.overflow_add-digits
overflow_add-digits c = record {
  fits = omega (
    arith,
    after-most c.requires.rest_lt_unit c.requires.most_bound c.loop-count.invariant (NatL.pos_of_ne-zero c.if-left-eq0.false) c.loop-count-test.true,
  );
}

pub loop-count-preserved : goal.loop-count-preserved
loop-count-preserved c = next c.requires.rest_lt_unit c.loop-count.invariant (NatL.pos_of_ne-zero c.if-left-eq0.false) c.loop-count-test.true

pub returns : goal.returns
returns c = at-most c.requires.rest_lt_unit c.loop-count.invariant (omega (arith, c.loop-count.invariant.within, c.loop-count-test.false))
