-- A number kept at limit + 1 goes on as the number itself: with a digit more, with more digits, and with zeros.
use Prim.Native.Nat.{ℕ, ◌+◌, ◌-◌, ◌*◌, ◌^◌, ◌≤◌}
use mathlib.Core.Path.{◌≡◌, sym, ap, ◌∙◌}
use mathlib.Core.List.{List, [], ◌∷◌}
use native.Mathlib.Nat.{mul_assoc, mul-one, mul-le-mul_left, pow-suc}
use native.Mathlib.Numerals.{add-one}
use native.Mathlib.Decide.{dec_le}
use native.Mathlib.Omega.{arith}
use Rattle.rules.specs.Reading.Numerals.{spell}
use Rattle.numbers.specs.Cuts.{kept}
use Rattle.numbers.proofs.Digits.{ten-pos}

module _ (limit : ℕ) where
  pub kept_more : (m d : ℕ) → kept limit (kept limit m * 10 + d) ≡ kept limit (m * 10 + d)
  kept_more m d = omega arith

  pub kept-spell : (m : ℕ) (ds : List ℕ) → kept limit (spell (kept limit m) ds) ≡ kept limit (spell m ds)
  unfolding spell
  kept-spell m [] = omega arith
  kept-spell m (b ∷ rest) =
      sym (kept-spell (kept limit m * 10 + (b - 48)) rest)
      ∙ ap (λ (n : ℕ). kept limit (spell n rest)) (kept_more m (b - 48))
      ∙ kept-spell (m * 10 + (b - 48)) rest

  pub kept-zeros : (m k : ℕ) → kept limit (kept limit m * 10 ^ k) ≡ kept limit (m * 10 ^ k)
  kept-zeros m k = by (dec_le m limit)
    where
      by : Dec (m ≤ limit) → kept limit (kept limit m * 10 ^ k) ≡ kept limit (m * 10 ^ k)
      by (yes h) = let e : kept limit m ≡ m = omega arith in rw e
      by (no h) = omega (arith, more (kept limit m), more m)
        where
          more : (n : ℕ) → n ≤ n * 10 ^ k
          more n = omega (arith, mul-le-mul_left n (ten-pos k), mul-one n)

-- one zero more
pub ten-more : (m k : ℕ) → m * 10 ^ k * 10 + 0 ≡ m * 10 ^ (k + 1)
ten-more m k = rw (add-one, pow-suc, mul_assoc) (omega arith)
