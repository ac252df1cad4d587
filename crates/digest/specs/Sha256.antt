-- SHA-256, with the section of FIPS 180-4 that each definition comes from. A word has 32 bits and is a number below 2 ^ 32; a byte is a number below 256.
use Rattle.std.specs.Prelude.{ℕ, zero, suc, ◌+◌, ◌-◌, ◌*◌, ◌/◌, ◌%◌, ◌^◌, List, [], ◌∷◌, ◌++◌, length, replicate, bit_and, bit_xor, slice_index}
use Rattle.digest.specs.declared.Digest.{Digest}

-- ---- 3.2: operations on words; those bit by bit are the logic's bitAnd and bitXor

-- (2): x + y modulo 2 ^ 32
infixl 60 ◌⊞◌
abbrev pub ◌⊞◌ : ℕ → ℕ → ℕ
x ⊞ y = (x + y) % 2 ^ 32

-- (1): the complement of x
abbrev pub complement : ℕ → ℕ
complement x = 2 ^ 32 - 1 - x

-- (3): SHR, x shifted right by n bits
abbrev pub shifted : ℕ → ℕ → ℕ
shifted n x = x / 2 ^ n

-- (4): ROTR, x rotated right by n bits
unfoldable pub rotated : ℕ → ℕ → ℕ
rotated n x = x / 2 ^ n + (x % 2 ^ n) * 2 ^ (32 - n)

-- ---- 4.1.2: functions

abbrev pub Ch : ℕ → ℕ → ℕ → ℕ
Ch x y z = bit_xor (bit_and x y) (bit_and (complement x) z)

abbrev pub Maj : ℕ → ℕ → ℕ → ℕ
Maj x y z = bit_xor (bit_xor (bit_and x y) (bit_and x z)) (bit_and y z)

unfoldable pub Σ₀ : ℕ → ℕ
Σ₀ x = bit_xor (bit_xor (rotated 2 x) (rotated 13 x)) (rotated 22 x)

unfoldable pub Σ₁ : ℕ → ℕ
Σ₁ x = bit_xor (bit_xor (rotated 6 x) (rotated 11 x)) (rotated 25 x)

unfoldable pub σ₀ : ℕ → ℕ
σ₀ x = bit_xor (bit_xor (rotated 7 x) (rotated 18 x)) (shifted 3 x)

unfoldable pub σ₁ : ℕ → ℕ
σ₁ x = bit_xor (bit_xor (rotated 17 x) (rotated 19 x)) (shifted 10 x)

-- ---- 4.2.2: the 64 constants

unfoldable pub constants : List ℕ
constants =
    0x428a2f98 ∷ 0x71374491 ∷ 0xb5c0fbcf ∷ 0xe9b5dba5 ∷ 0x3956c25b ∷ 0x59f111f1 ∷ 0x923f82a4 ∷ 0xab1c5ed5
    ∷ 0xd807aa98 ∷ 0x12835b01 ∷ 0x243185be ∷ 0x550c7dc3 ∷ 0x72be5d74 ∷ 0x80deb1fe ∷ 0x9bdc06a7 ∷ 0xc19bf174
    ∷ 0xe49b69c1 ∷ 0xefbe4786 ∷ 0x0fc19dc6 ∷ 0x240ca1cc ∷ 0x2de92c6f ∷ 0x4a7484aa ∷ 0x5cb0a9dc ∷ 0x76f988da
    ∷ 0x983e5152 ∷ 0xa831c66d ∷ 0xb00327c8 ∷ 0xbf597fc7 ∷ 0xc6e00bf3 ∷ 0xd5a79147 ∷ 0x06ca6351 ∷ 0x14292967
    ∷ 0x27b70a85 ∷ 0x2e1b2138 ∷ 0x4d2c6dfc ∷ 0x53380d13 ∷ 0x650a7354 ∷ 0x766a0abb ∷ 0x81c2c92e ∷ 0x92722c85
    ∷ 0xa2bfe8a1 ∷ 0xa81a664b ∷ 0xc24b8b70 ∷ 0xc76c51a3 ∷ 0xd192e819 ∷ 0xd6990624 ∷ 0xf40e3585 ∷ 0x106aa070
    ∷ 0x19a4c116 ∷ 0x1e376c08 ∷ 0x2748774c ∷ 0x34b0bcb5 ∷ 0x391c0cb3 ∷ 0x4ed8aa4a ∷ 0x5b9cca4f ∷ 0x682e6ff3
    ∷ 0x748f82ee ∷ 0x78a5636f ∷ 0x84c87814 ∷ 0x8cc70208 ∷ 0x90befffa ∷ 0xa4506ceb ∷ 0xbef9a3f7 ∷ 0xc67178f2
    ∷ []

-- ---- 5.1.1: padding

-- the last `count` digits of n, each of `bits` bits, the most significant first
unfoldable pub digits : ℕ → ℕ → ℕ → List ℕ
digits bits zero n = []
digits bits (suc count) n = n / 2 ^ (bits * count) % 2 ^ bits ∷ digits bits count n

-- so many bytes of zeros
abbrev pub zeros : ℕ → List ℕ
zeros count = replicate count 0

-- what follows a message that uses so many bytes of its last block: a 1 and seven 0, which are the byte 128, the fewest zeros that leave 8 bytes of a
-- block (the byte 128, they and what is used are 56 bytes modulo 64), and in these the message's length in bits
unfoldable pub ending : ℕ → ℕ → List ℕ
ending used bits = 128 ∷ (zeros ((119 - used) % 64) ++ digits 8 8 bits)

-- the paper has no checksum of 2 ^ 64 bits or more: here the length counts modulo 2 ^ 64, so that every list of bytes has one
unfoldable pub padded : List ℕ → List ℕ
padded m = m ++ ending (length m % 64) (length m * 8 % 2 ^ 64)

-- ---- 5.2.1: blocks of 16 words

-- four bytes are a word, the first the most significant (3.1)
abbrev pub word_of : ℕ → ℕ → ℕ → ℕ → ℕ
word_of a b c d = a * 2 ^ 24 + b * 2 ^ 16 + c * 2 ^ 8 + d

-- the word from a place on
unfoldable pub word_at : List ℕ → ℕ → ℕ
word_at m at = word_of (slice_index m at) (slice_index m (at + 1)) (slice_index m (at + 2)) (slice_index m (at + 3))

-- so many words from a place on
unfoldable pub words_at : ℕ → List ℕ → ℕ → List ℕ
words_at zero m at = []
words_at (suc count) m at = words_at count m at ++ (word_at m (at + 4 * count) ∷ [])

-- block i, where the first is block 0
abbrev pub block_of : List ℕ → ℕ → List ℕ
block_of m i = words_at 16 m (i * 64)

-- ---- 5.3.3: the first hash

abbrev pub first_hash : Digest
first_hash = record {
  a = 0x6a09e667;
  b = 0xbb67ae85;
  c = 0x3c6ef372;
  d = 0xa54ff53a;
  e = 0x510e527f;
  f = 0x9b05688c;
  g = 0x1f83d9ab;
  h = 0x5be0cd19;
}

-- ---- 6.2.2, step 1: the message schedule

-- word t from the words t - 2, t - 7, t - 15 and t - 16
unfoldable pub scheduled : ℕ → ℕ → ℕ → ℕ → ℕ
scheduled w₂ w₇ w₁₅ w₁₆ = σ₁ w₂ ⊞ w₇ ⊞ σ₀ w₁₅ ⊞ w₁₆

-- the words before word t, and word t
unfoldable pub with_next : ℕ → List ℕ → List ℕ
with_next t w = w ++ (scheduled (slice_index w (t - 2)) (slice_index w (t - 7)) (slice_index w (t - 15)) (slice_index w (t - 16)) ∷ [])

-- a block's 16 words and so many after them
unfoldable pub extended : ℕ → List ℕ → List ℕ
extended zero block = block
extended (suc count) block = with_next (16 + count) (extended count block)

-- all 64
abbrev pub schedule : List ℕ → List ℕ
schedule block = extended 48 block

-- ---- 6.2.2, step 3: the working variables a to h

unfoldable pub T₁ : Digest → ℕ → ℕ → ℕ
T₁ s k w = s.h ⊞ Σ₁ s.e ⊞ Ch s.e s.f s.g ⊞ k ⊞ w

unfoldable pub T₂ : Digest → ℕ
T₂ s = Σ₀ s.a ⊞ Maj s.a s.b s.c

-- their next values, with constant k and word w
unfoldable pub worked : Digest → ℕ → ℕ → Digest
worked s k w = record {
  h = s.g;
  g = s.f;
  f = s.e;
  e = s.d ⊞ T₁ s k w;
  d = s.c;
  c = s.b;
  b = s.a;
  a = T₁ s k w ⊞ T₂ s;
}

-- after so many turns with the words of a schedule
unfoldable pub worked_in : ℕ → List ℕ → Digest → Digest
worked_in zero w s = s
worked_in (suc t) w s = worked (worked_in t w s) (slice_index constants t) (slice_index w t)

-- ---- 6.2.2, steps 2 and 4: the hash after a block

unfoldable pub added : Digest → Digest → Digest
added s h = record {
  a = s.a ⊞ h.a;
  b = s.b ⊞ h.b;
  c = s.c ⊞ h.c;
  d = s.d ⊞ h.d;
  e = s.e ⊞ h.e;
  f = s.f ⊞ h.f;
  g = s.g ⊞ h.g;
  h = s.h ⊞ h.h;
}

unfoldable pub compressed : List ℕ → Digest → Digest
compressed block h = added (worked_in 64 (schedule block) h) h

-- ---- 6.2.2: the hash after so many blocks of m, and after all of the padded message

unfoldable pub hashed : ℕ → List ℕ → Digest → Digest
hashed zero m h = h
hashed (suc i) m h = compressed (block_of m i) (hashed i m h)

unfoldable pub sha256 : List ℕ → Digest
sha256 m = hashed (length (padded m) / 64) (padded m) first_hash
