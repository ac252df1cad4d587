-- With p·full = m·unit, m·s over full is p·s over the unit, and the nearest whole number is (p·s + unit / 2) / unit, s moved into 0 to full. Below 0 that is 0,
-- above full it is m.
use Prim.Native.Nat.{ℕ, ◌+◌, ◌*◌, ◌/◌, ◌≤◌, ◌<◌, min}
use mathlib.Core.Path.{◌≡◌, sym, ap, ◌∙◌}
use native.Mathlib.Nat as NatL
use native.Mathlib.Omega.{arith}
use lib.IntN.{ℤ, pos, ◌*ℤ◌}
use Rattle.whole.specs.Integers.{up}
use Rattle.whole.specs.Nearest.{rounded, code}
use Rattle.whole.proofs.NearestLaws.{code-in-terms}

by-half : (s unit : ℕ) → 0 < unit → rounded s unit ≡ (s + unit / 2) / unit
by-half s unit u =
    let q = (s + unit / 2) / unit in
    let twice = NatL.mul_left_comm 2 q unit in
    let low = NatL.div-mul-le_self (s + unit / 2) unit in
    let near = NatL.lt-div-mul-add {a = s + unit / 2} {b = unit} u in
    NatL.div-eq_of_lt-le {k = q} (2 * unit) (omega (arith, twice, low)) (omega (arith, twice, near, NatL.add-mul q 1 (2 * unit)))

-- a whole number of units and half of one
whole-and-half : (k unit : ℕ) → 0 < unit → (k * unit + unit / 2) / unit ≡ k
whole-and-half k unit u = NatL.div-eq_of_lt-le {k = k} unit (omega arith) (omega (arith, NatL.add-mul k 1 unit))

module _ (p m full unit : ℕ) (in_terms : p * full ≡ m * unit) (wide : 0 < full) (some : 0 < unit) (z : ℤ) where
  halved_is : code (pos m *ℤ z) full m ≡ (p * min full (up z) + unit / 2) / unit
  halved_is = code-in-terms p m full unit z wide some in_terms ∙ by-half (p * min full (up z)) unit some

  at-units : (k s : ℕ) → min full (up z) ≡ s → p * s ≡ k * unit → k ≡ code (pos m *ℤ z) full m
  at-units k s e u = sym (halved_is ∙ ap (λ x. (p * x + unit / 2) / unit) e ∙ ap (λ x. (x + unit / 2) / unit) u ∙ whole-and-half k unit some)

  pub when-below : up z ≡ 0 → 0 ≡ code (pos m *ℤ z) full m
  when-below e = at-units 0 0 (omega arith) (omega arith)

  pub when-above : full < up z → m ≡ code (pos m *ℤ z) full m
  when-above h = at-units m full (omega arith) in_terms

  pub when-inside : up z ≤ full → (p * up z + unit / 2) / unit ≡ code (pos m *ℤ z) full m
  when-inside h = ap (λ s. (p * s + unit / 2) / unit) (sym (NatL.min-eq_right h)) ∙ sym halved_is

-- with p = 1
module _ (m full unit : ℕ) (in_terms : full ≡ m * unit) (wide : 0 < full) (some : 0 < unit) (z : ℤ) where
  once : 1 * full ≡ m * unit
  once = NatL.one-mul full ∙ in_terms

  pub once-below : up z ≡ 0 → 0 ≡ code (pos m *ℤ z) full m
  once-below = when-below 1 m full unit once wide some z

  pub once-above : full < up z → m ≡ code (pos m *ℤ z) full m
  once-above = when-above 1 m full unit once wide some z

  pub once-inside : up z ≤ full → (up z + unit / 2) / unit ≡ code (pos m *ℤ z) full m
  once-inside h = ap (λ s. (s + unit / 2) / unit) (sym (NatL.one-mul (up z))) ∙ when-inside 1 m full unit once wide some z h
