-- A rotation as code and the paper make it: the high bits moved down, beside the low bits moved up.
use Rattle.std.proofs.Common.{◌≡◌, ℕ, ◌+◌, ◌-◌, ◌*◌, ◌/◌, ◌%◌, ◌^◌, ◌<◌, ap, ◌∙◌, subst, ap₂, add-zero, add_comm, arith, shr_lt}
use native.Mathlib.Nat.{mul-mod_left}
use lib.Bits.{bit_or, or_shifted_r}
use lib.Pow.{mod-pow-add, shl-shr}
use Rattle.digest.specs.Sha256.{rotated}

-- what is moved up keeps only its low bits
moved_up : (n up x : ℕ) → (x * 2 ^ up) % 2 ^ (n + up) ≡ (x % 2 ^ n) * 2 ^ up
moved_up n up x =
    mod-pow-add (x * 2 ^ up) n up
    ∙ ap₂ (λ high low. (high % 2 ^ n) * 2 ^ up + low) (shl-shr x up) (mul-mod_left x (2 ^ up))
    ∙ add-zero _

module _ (n x : ℕ) (h : n < 32) (word : x < 2 ^ 32) where
  -- and what is moved down stays below it
  pub moved_down : x / 2 ^ n < 2 ^ (32 - n)
  moved_down = let all : 32 ≡ 32 - n + n = omega arith in shr_lt (32 - n) n (subst (λ k. x < 2 ^ k) all word)

  pub rotation : bit_or (x / 2 ^ n) ((x * 2 ^ (32 - n)) % 2 ^ 32) ≡ rotated n x
  unfolding rotated
  rotation =
      let all : 32 ≡ n + (32 - n) = omega arith in
      ap (bit_or (x / 2 ^ n)) (ap (λ k. (x * 2 ^ (32 - n)) % 2 ^ k) all ∙ moved_up n (32 - n) x)
      ∙ or_shifted_r (x % 2 ^ n) (32 - n) (x / 2 ^ n) moved_down
      ∙ add_comm _ _
