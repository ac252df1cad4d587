-- The published vectors, computed by the definition: the empty message, one block, and two.
use Rattle.std.proofs.Common.{◌≡◌, ℕ, refl}
use Rattle.rules.specs.Reading.Lines.{bytes}
use Rattle.digest.specs.Sha256.{rotated, Σ₀, Σ₁, σ₀, σ₁, constants, digits, ending, padded, word_at, words_at, scheduled, with_next, extended, T₁, T₂, worked, worked_in, added, compressed, hashed, sha256}
use Rattle.digest.specs.Hexadecimal.{hex_byte, hex_word, hex_words, hexadecimal}

-- opens all definitions
unfoldable opened : ℕ
unfolding bytes rotated Σ₀ Σ₁ σ₀ σ₁ constants digits ending padded word_at words_at scheduled with_next extended T₁ T₂ worked worked_in added compressed hashed sha256 hex_byte hex_word hex_words
opened = 0

pub empty : hexadecimal (sha256 (bytes "")) ≡ bytes "e3b0c44298fc1c149afbf4c8996fb92427ae41e4649b934ca495991b7852b855"
unfolding opened
empty = refl

pub one_block : hexadecimal (sha256 (bytes "abc")) ≡ bytes "ba7816bf8f01cfea414140de5dae2223b00361a396177a9cb410ff61f20015ad"
unfolding opened
one_block = refl

pub two_blocks : hexadecimal (sha256 (bytes "abcdbcdecdefdefgefghfghighijhijkijkljklmklmnlmnomnopnopq")) ≡ bytes "248d6a61d20638b8e5c026930c3e6039a33ce45964ff2167f6ecedd419db06c1"
unfolding opened
two_blocks = refl
