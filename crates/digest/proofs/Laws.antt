-- What makes the definition believable, and no code needs: padding is what the paper asks for, and words stay words.
use Rattle.std.proofs.Common.{◌≡◌, ℕ, zero, suc, ◌+◌, ◌-◌, ◌*◌, ◌/◌, ◌%◌, ◌^◌, ◌<◌, List, length, take, sym, ap, ◌∙◌, mod-lt, arith, length-append, pow_pos, pow-add}
use lib.Arith.{digits_lt}
use lib.Seq.{take-append_seam}
use Rattle.digest.specs.declared.Digest.{Digest}
use Rattle.digest.specs.Sha256.{rotated, ending, padded, first_hash, added, compressed, hashed, sha256}
use Rattle.digest.proofs.Rotations.{moved_down}
use Rattle.digest.proofs.Paddings.{ending-length}

-- ---- padding

pub starts-with-message : (m : List ℕ) → take (length m) (padded m) ≡ m
unfolding padded
starts-with-message m = take-append_seam m _

padded-length : (m : List ℕ) → length (padded m) ≡ length m + 9 + (119 - length m % 64) % 64
unfolding padded
padded-length m =
    let bits : ℕ = length m * 8 % 2 ^ 64 in
    omega (arith, length-append m (ending (length m % 64) bits), ending-length (length m % 64) bits)

pub whole-blocks : (m : List ℕ) → length (padded m) % 64 ≡ 0
whole-blocks m = omega (arith, padded-length m)

-- besides the 1 and the length, less than a block
pub fewest-zeros : (m : List ℕ) → length (padded m) < length m + 9 + 64
fewest-zeros m = omega (arith, padded-length m)

-- where the paper has a checksum, the length stands there as it is
pub whole_length : (m : List ℕ) → length m * 8 < 2 ^ 64 → length m * 8 % 2 ^ 64 ≡ length m * 8
whole_length m h = omega arith

-- ---- words

pub rotated-word : (n x : ℕ) → n < 32 → x < 2 ^ 32 → rotated n x < 2 ^ 32
unfolding rotated
rotated-word n x h word =
    let bits : n + (32 - n) ≡ 32 = omega arith in
    let all : 2 ^ n * 2 ^ (32 - n) ≡ 2 ^ 32 = sym (pow-add 2 n (32 - n)) ∙ ap (λ k. 2 ^ k) bits in
    omega (arith, all, digits_lt (mod-lt x (pow_pos n)) (moved_down n x h word))

-- each of the eight
pub record Words (x : Digest) : Type 0 where
  pub a : x.a < 2 ^ 32
  pub b : x.b < 2 ^ 32
  pub c : x.c < 2 ^ 32
  pub d : x.d < 2 ^ 32
  pub e : x.e < 2 ^ 32
  pub f : x.f < 2 ^ 32
  pub g : x.g < 2 ^ 32
  pub h : x.h < 2 ^ 32

hashed-words : (n : ℕ) (m : List ℕ) → Words (hashed n m first_hash)
unfolding hashed compressed added
hashed-words zero m = omega arith
hashed-words (suc n) m = omega arith

pub sha256-words : (m : List ℕ) → Words (sha256 m)
unfolding sha256
sha256-words m = hashed-words (length (padded m) / 64) (padded m)
