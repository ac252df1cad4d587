-- The end of a padded message, byte by byte: the rest of the message, a 1, zeros, the length.
use Rattle.std.proofs.Common.{◌≡◌, ℕ, suc, ◌+◌, ◌-◌, ◌*◌, ◌/◌, ◌%◌, ◌^◌, ◌<◌, ◌≤◌, List, ◌++◌, length, get_or, set, sym, ap, ◌∙◌, arith, length-append, length-set, get_or-set_other, get_or-set_same, get_or-append-add, below_more}
use lib.ListN.{length-replicate, get_or-replicate, get_or-append, get_or-eq_default}
use lib.Seq.{get_or_at}
use Rattle.digest.specs.Sha256.{digits, zeros, ending}
use Rattle.digest.specs.Parts.{ended, Alike}
use Rattle.digest.proofs.Digits.{digits-length, digits-at}

-- ---- how long it is

zeros-length : (count : ℕ) → length (zeros count) ≡ count
zeros-length count = length-replicate count 0

pub ending-length : (used bits : ℕ) → length (ending used bits) ≡ (119 - used) % 64 + 9
unfolding ending
ending-length used bits =
    let count : ℕ = (119 - used) % 64 in
    omega (arith, length-append (zeros count) (digits 8 8 bits), zeros-length count, digits-length 8 8 bits)

-- with what is used it fills one block, or two where the length has no room in the first
pub one_block : (used bits : ℕ) → used < 56 → 1 * 64 ≡ used + length (ending used bits)
one_block used bits h = omega (arith, ending-length used bits)

pub two_blocks : (used bits : ℕ) → 56 ≤ used → used < 64 → 2 * 64 ≡ used + length (ending used bits)
two_blocks used bits h below = omega (arith, ending-length used bits)

-- two have room for it
pub blocks-fit : (used bits k : ℕ) → used < 64 → k * 64 ≡ used + length (ending used bits) → k * 64 ≤ 128
blocks-fit used bits k below fills = omega (arith, ending-length used bits)

pub ended-length : (rest : List ℕ) (bits : ℕ) → length (ended rest bits) ≡ length rest + (119 - length rest) % 64 + 9
ended-length rest bits = omega (arith, length-append rest (ending (length rest) bits), ending-length (length rest) bits)

-- ---- its bytes

module _ (rest : List ℕ) (bits : ℕ) where
  pub byte-of-rest : (i : ℕ) → i < length rest → get_or (ended rest bits) i 0 ≡ get_or rest i 0
  byte-of-rest i h = get_or-append rest (ending (length rest) bits) 0 i h

  pub byte-of-one : (i : ℕ) → i ≡ length rest → get_or (ended rest bits) i 0 ≡ 128
  unfolding ending
  byte-of-one i e = get_or_at rest 128 _ 0 i (sym e)

  after_one : (j : ℕ) → get_or (ended rest bits) (length rest + suc j) 0 ≡ get_or (zeros ((119 - length rest) % 64) ++ digits 8 8 bits) j 0
  unfolding ending
  after_one j = get_or-append-add rest (ending (length rest) bits) (suc j) 0

  module _ (end i : ℕ) (below : length rest < 64) (ends : end ≡ length (ended rest bits)) where
    count : ℕ
    count = (119 - length rest) % 64

    pub byte-of-zeros : length rest < i → i < end - 8 → get_or (ended rest bits) i 0 ≡ 0
    unfolding count
    byte-of-zeros past h =
        let j : ℕ = i - length rest - 1 in
        let place : i ≡ length rest + suc j = omega arith in
        let inside : j < count = omega (arith, ends, ended-length rest bits) in
        ap (λ p. get_or (ended rest bits) p 0) place
        ∙ after_one j
        ∙ get_or-append (zeros count) (digits 8 8 bits) 0 j (omega (arith, zeros-length count))
        ∙ get_or-replicate count j 0 0 inside

    pub byte-of-length : end - 8 ≤ i → i < end → get_or (ended rest bits) i 0 ≡ bits / 2 ^ (8 * (end - 1 - i)) % 256
    unfolding count
    byte-of-length from h =
        let k : ℕ = i - (end - 8) in
        let place : i ≡ length rest + suc (length (zeros count) + k) = omega (arith, ends, ended-length rest bits, zeros-length count) in
        ap (λ p. get_or (ended rest bits) p 0) place
        ∙ after_one (length (zeros count) + k)
        ∙ get_or-append-add (zeros count) (digits 8 8 bits) k 0
        ∙ digits-at 8 8 bits k (omega (arith, ends, ended-length rest bits))
        ∙ ap (λ p. bits / 2 ^ (8 * p) % 256) (omega (arith, ends, ended-length rest bits))

    pub byte_past : end ≤ i → get_or (ended rest bits) i 0 ≡ 0
    byte_past h = get_or-eq_default (ended rest bits) 0 (omega arith)

-- ---- bytes filled one by one, until all are its own

pub record Filling (n : ℕ) (target last : List ℕ) (i : ℕ) : Type 0 where
  pub some : i ≤ n
  pub size : length last ≡ n
  pub alike : Alike i last target

pub filling-turn : {n : ℕ} {target last : List ℕ} {i x : ℕ}
    → i < n → Filling n target last i → x ≡ get_or target i 0 → Filling n target (set last i x) (i + 1)
filling-turn {n} {target} {last} {i} {x} h f e = record {
  some = omega arith;
  size = length-set last i x ∙ f.size;
  alike = record {
    at = below_more (λ j. get_or (set last i x) j 0 ≡ get_or target j 0) i
        (λ j below. get_or-set_other last i j x 0 (λ same. omega arith) ∙ f.alike.at j below)
        (get_or-set_same last i x 0 (omega (arith, f.size)) ∙ e);
  };
}
