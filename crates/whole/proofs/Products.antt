-- The upper half of a product, by hand. With B = 2^32, a = a₁·B + a₀ and b = b₁·B + b₀, the product is a₁·b₁·B² + (a₀·b₁ + a₁·b₀)·B + a₀·b₀: all that follows
-- is linear in these four products.
use Prim.Native.Nat.{ℕ, ◌+◌, ◌*◌, ◌/◌, ◌%◌, ◌≤◌, ◌<◌}
use mathlib.Core.Path.{◌≡◌, ap, ◌∙◌, sym}
use native.Mathlib.Nat as NatL
use native.Mathlib.Omega.{arith}

-- ---- the digits of a number to the base B

pub low_digit : (x : ℕ) → x % 4_294_967_296 ≤ 4_294_967_295
low_digit x = omega arith

pub high_digit : {x : ℕ} → x < 18_446_744_073_709_551_616 → x / 4_294_967_296 ≤ 4_294_967_295
high_digit h = omega arith

-- (B − 1)²
pub digits-fit : {x y : ℕ} → x ≤ 4_294_967_295 → y ≤ 4_294_967_295 → x * y ≤ 18_446_744_065_119_617_025
digits-fit h k = NatL.mul-le-mul h k

by_digits : (x y : ℕ) → x * y ≡ 4_294_967_296 * (x / 4_294_967_296 * y) + x % 4_294_967_296 * y
by_digits x y =
    ap (λ z. z * y) (sym (NatL.div-add-mod x 4_294_967_296))
    ∙ NatL.add-mul (4_294_967_296 * (x / 4_294_967_296)) (x % 4_294_967_296) y
    ∙ ap (λ z. z + x % 4_294_967_296 * y) (NatL.mul_assoc 4_294_967_296 (x / 4_294_967_296) y)

-- ---- the product
module _ (a b : ℕ) where
  abbrev a₀ : ℕ
  a₀ = a % 4_294_967_296

  abbrev a₁ : ℕ
  a₁ = a / 4_294_967_296

  abbrev b₀ : ℕ
  b₀ = b % 4_294_967_296

  abbrev b₁ : ℕ
  b₁ = b / 4_294_967_296

  -- the column whose carry goes into the upper half
  abbrev middle : ℕ
  middle = a₀ * b₀ / 4_294_967_296 + a₀ * b₁ % 4_294_967_296 + a₁ * b₀ % 4_294_967_296

  abbrev upper : ℕ
  upper = a₁ * b₁ + a₀ * b₁ / 4_294_967_296 + a₁ * b₀ / 4_294_967_296 + middle / 4_294_967_296

  columns : a * b ≡ 18_446_744_073_709_551_616 * (a₁ * b₁) + 4_294_967_296 * (a₀ * b₁ + a₁ * b₀) + a₀ * b₀
  columns = omega (arith, by_digits a b, by_digits b a₀, by_digits b a₁)

  pub upper-right : upper ≡ a * b / 18_446_744_073_709_551_616
  upper-right = omega (arith, columns)

  pub upper_fits : a < 18_446_744_073_709_551_616 → b < 18_446_744_073_709_551_616 → upper < 18_446_744_073_709_551_616
  upper_fits h k =
      omega (
        arith,
        digits-fit (low_digit a) (low_digit b),
        digits-fit (low_digit a) (high_digit k),
        digits-fit (high_digit h) (low_digit b),
        digits-fit (high_digit h) (high_digit k),
      )
