-- A row is r + N·(g + N·b): remainder and quotient by N take it apart, and so in one way only.
use Prim.Native.Nat.{ℕ, ◌+◌, ◌*◌, ◌/◌, ◌%◌, ◌<◌}
use mathlib.Core.Path.{◌≡◌, sym, ap, ◌∙◌}
use mathlib.Core.Bool.{true}
use native.Mathlib.Nat as NatL
use native.Mathlib.Omega.{arith}
use borrow.Author.Tests.{leb-true}
use lib.Dec.{leb}
use Rattle.rules.specs.Units.{in_range, rows_of}
use Rattle.rules.specs.declared.Colour.{Colour}
use Rattle.rules.specs.declared.Colour.TheVariants.{Red, Green, Blue}
use Rattle.rules.specs.declared.Kind.TheVariants.{ThreeD}
use Rattle.rules.proofs.Tests.{and_both}
use Rattle.placing.specs.Grids.{along, StandsAt}
use Rattle.placing.specs.declared.grid.Grid.{Grid}

-- by remainder and quotient
abbrev pub parted : ℕ → ℕ → Grid
parted n row = record { red = row % n; green = row / n % n; blue = row / n / n }

pub some-n : (n : ℕ) → in_range ThreeD n ≡ true → 0 < n
some-n n e = omega (arith, leb-true 2 n (and_both (leb 2 n) _ e).0)

nested : (n r g b : ℕ) → r + n * g + n * n * b ≡ r + n * (g + n * b)
nested n r g b = omega (arith, NatL.mul-add n g (n * b), NatL.mul_assoc n n b)

-- ---- what is taken apart stands there

module _ (n row : ℕ) (some : 0 < n) (h : row < rows_of ThreeD n) where
  parted-inside : (c : Colour) → along (parted n row) c < n
  parted-inside Red = NatL.mod-lt row some
  parted-inside Green = NatL.mod-lt (row / n) some
  parted-inside Blue = (NatL.div-lt_iff_lt-mul some).1 ((NatL.div-lt_iff_lt-mul some).1 h)

  pub parted-stands : StandsAt n row (parted n row)
  parted-stands = record {
    is =
        nested n (row % n) (row / n % n) (row / n / n)
        ∙ ap (λ k. row % n + n * k) (NatL.mod-add-div (row / n) n)
        ∙ NatL.mod-add-div row n;
    inside = parted-inside;
  }

-- ---- and nothing else does

-- the remainder and the quotient of r + n·k
low_part : (n r k : ℕ) → r < n → (r + n * k) % n ≡ r
low_part n r k h = NatL.add-mul-mod_self_left r n k ∙ NatL.mod-eq_of_lt h

high_part : (n r k : ℕ) → r < n → (r + n * k) / n ≡ k
high_part n r k h = NatL.add-mul-div_left r k {y = n} (omega arith) ∙ ap (λ x. x + k) (NatL.div-eq_of_lt h) ∙ NatL.zero-add k

stands-parted : {n row : ℕ} {g : Grid} → StandsAt n row g → g ≡ parted n row
stands-parted {n} {row} {g} s =
    let line = g.green + n * g.blue in
    let whole : row ≡ g.red + n * line = sym s.is ∙ nested n g.red g.green g.blue in
    let rest : row / n ≡ line = ap (λ x. x / n) whole ∙ high_part n g.red line (s.inside Red) in
    let red = ap (λ x. x % n) whole ∙ low_part n g.red line (s.inside Red) in
    let green = ap (λ x. x % n) rest ∙ low_part n g.green g.blue (s.inside Green) in
    let blue = ap (λ x. x / n) rest ∙ high_part n g.green g.blue (s.inside Green) in
    λ i. record { red = sym red i; green = sym green i; blue = sym blue i }

-- no other three indices are the row's
pub one-grid : {n row : ℕ} {g h : Grid} → StandsAt n row g → StandsAt n row h → g ≡ h
one-grid s t = stands-parted s ∙ sym (stands-parted t)
