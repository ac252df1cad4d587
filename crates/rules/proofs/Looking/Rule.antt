-- What the paper's rule gives is an admissible reading of each position.
use Prim.Native.Nat.{ℕ, ◌+◌, ◌-◌, ◌*◌, ◌/◌, ◌≤◌, ◌<◌, min}
use mathlib.Core.Path.{◌≡◌}
use native.Mathlib.Nat as NatL
use native.Mathlib.Decide.{dec_le, dec_lt}
use native.Mathlib.Omega.{arith}
use Rattle.rules.specs.Looking.Interpolation.{den, offset, position, index, fraction}
use Rattle.rules.specs.Looking.Readings.{Reading}
use Rattle.rules.specs.declared.Domain.{Domain}

-- ---- the cell and the fraction of the rule

module _ (m : ℕ) (dom : Domain) (n c : ℕ) (d : 0 < den m dom) (h : 2 ≤ n) where
  abbrev p : ℕ
  p = position m dom n c

  abbrev i : ℕ
  i = index m dom n c

  abbrev f : ℕ
  f = fraction m dom n c

  cell : i + 2 ≤ n
  unfolding index
  cell = omega (arith, NatL.min-le_right (p / den m dom) (n - 2))

  below : i * den m dom ≤ p
  unfolding index
  below = omega (arith, NatL.mul-le-mul_right (den m dom) (NatL.min-le_left (p / den m dom) (n - 2)), NatL.div-mul-le_self p (den m dom))

  -- p is at most D·(N−1), the end of the last cell
  at_most : p ≤ den m dom * (n - 1)
  unfolding position offset
  at_most = NatL.mul-le-mul_right (n - 1) (NatL.min-le_left (den m dom) _)

  above : p ≤ i * den m dom + den m dom
  unfolding index
  above = by (dec_le (p / den m dom) (n - 2))
    where
      by : Dec (p / den m dom ≤ n - 2) → p ≤ min (p / den m dom) (n - 2) * den m dom + den m dom
      by (yes k) = rw (NatL.min-eq_left k) (NatL.le_of_lt (NatL.lt-div-mul-add {a = p} {b = den m dom} d))
      by (no k) =
          let e : n - 2 ≤ p / den m dom = omega arith in
          let l : n - 1 ≡ (n - 2) + 1 = omega arith in
          rw (NatL.min-eq_right e) (omega (arith, rw l at at_most, NatL.mul_comm (den m dom) ((n - 2) + 1), NatL.add-mul (n - 2) 1 (den m dom)))

  pub rule-reads : Reading n (den m dom) p i f
  unfolding fraction
  rule-reads = record { cell = cell; part = omega (arith, above, below); place = omega (arith, below) }

  -- the rule's f reaches D in the last cell alone
  pub full-last : den m dom ≤ f → n ≤ i + 2
  unfolding index fraction
  full-last k = by (dec_lt (p / den m dom) (n - 2)) k
    where
      by : Dec (p / den m dom < n - 2) → den m dom ≤ p - min (p / den m dom) (n - 2) * den m dom → n ≤ min (p / den m dom) (n - 2) + 2
      by (yes l) k =
          let e : min (p / den m dom) (n - 2) ≡ p / den m dom = omega arith in
          absurd (omega (arith, rw e at k, NatL.lt-div-mul-add {a = p} {b = den m dom} d))
      by (no l) k = omega arith
