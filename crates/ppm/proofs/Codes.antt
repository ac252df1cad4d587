-- Codes and bytes, place by place; how many there are; and bytes made of codes are those codes again.
use Prim.Native.Nat.{ℕ, zero, suc, ◌+◌, ◌*◌, ◌/◌, ◌%◌, ◌<◌}
use mathlib.Core.Path.{◌≡◌, refl, ap, ap₂, ◌∙◌}
use mathlib.Core.Bool.{Bool, true, false}
use mathlib.Core.List.{List, [], ◌∷◌}
use native.Mathlib.Omega.{arith}
use borrow.Author.Tests.{leb-true}
use lib.Dec.{leb}
use lib.ListN.{length, get_or}
use Rattle.rules.specs.Reading.Lines.{every}
use Rattle.rules.proofs.Tests.{and_both}
use Rattle.ppm.specs.Raster.{bytes_of, byte_count, code_count, codes_of}

-- ---- how many

pub codes-length : (wide : Bool) (bytes : List ℕ) → length (codes_of wide bytes) ≡ code_count wide (length bytes)
unfolding codes_of
codes-length false bytes = refl
codes-length true [] = refl
codes-length true (greater ∷ []) = refl
codes-length true (greater ∷ lesser ∷ rest) = ap suc (codes-length true rest) ∙ omega arith

pub bytes-length : (wide : Bool) (codes : List ℕ) → length (bytes_of wide codes) ≡ byte_count wide (length codes)
unfolding bytes_of
bytes-length false [] = refl
bytes-length true [] = refl
bytes-length false (c ∷ rest) = ap suc (bytes-length false rest)
bytes-length true (c ∷ rest) = ap (λ n. suc (suc n)) (bytes-length true rest) ∙ omega arith

-- ---- place by place

-- code i is made of the bytes 2i and 2i + 1
pub wide-code : (bytes : List ℕ) (i : ℕ) → i * 2 + 1 < length bytes → get_or bytes (i * 2) 0 * 256 + get_or bytes (i * 2 + 1) 0 ≡ get_or (codes_of true bytes) i 0
unfolding codes_of
wide-code [] i h = absurd (omega arith)
wide-code (greater ∷ []) i h = absurd (omega arith)
wide-code (greater ∷ lesser ∷ rest) zero h = refl
wide-code (greater ∷ lesser ∷ rest) (suc i) h =
    let first : suc i * 2 ≡ suc (suc (i * 2)) = omega arith in
    let second : suc i * 2 + 1 ≡ suc (suc (i * 2 + 1)) = omega arith in
    rw (second, first) (wide-code rest i (omega arith))

-- byte i is the lesser byte of code i
pub narrow-byte : (codes : List ℕ) (i : ℕ) → i < length codes → get_or codes i 0 % 256 ≡ get_or (bytes_of false codes) i 0
unfolding bytes_of
narrow-byte [] i h = absurd (omega arith)
narrow-byte (c ∷ rest) zero h = refl
narrow-byte (c ∷ rest) (suc i) h = narrow-byte rest i (omega arith)

-- bytes 2i and 2i + 1 are the greater and the lesser byte of code i
pub wide-bytes : (codes : List ℕ) (i : ℕ) → i < length codes
    → (get_or codes i 0 / 256 ≡ get_or (bytes_of true codes) (i * 2) 0) × (get_or codes i 0 % 256 ≡ get_or (bytes_of true codes) (i * 2 + 1) 0)
unfolding bytes_of
wide-bytes [] i h = absurd (omega arith)
wide-bytes (c ∷ rest) zero h = (refl, refl)
wide-bytes (c ∷ rest) (suc i) h =
    let first : suc i * 2 ≡ suc (suc (i * 2)) = omega arith in
    let second : suc i * 2 + 1 ≡ suc (suc (i * 2 + 1)) = omega arith in
    let later = wide-bytes rest i (omega arith) in
    (rw first later.0, rw second later.1)

-- ---- there and back

-- codes below 256 are themselves as bytes of one
pub narrow_back : (codes : List ℕ) → every (λ c. leb c 255) codes ≡ true → codes_of false (bytes_of false codes) ≡ codes
unfolding codes_of bytes_of every
narrow_back [] h = refl
narrow_back (c ∷ rest) h =
    let both = and_both (leb c 255) (every (λ c. leb c 255) rest) h in
    let small = leb-true c 255 both.0 in
    ap₂ (λ x y. x ∷ y) (omega arith) (narrow_back rest both.1)

-- any codes are themselves as bytes of two
pub wide_back : (codes : List ℕ) → codes_of true (bytes_of true codes) ≡ codes
unfolding codes_of bytes_of
wide_back [] = refl
wide_back (c ∷ rest) = ap₂ (λ x y. x ∷ y) (omega arith) (wide_back rest)
