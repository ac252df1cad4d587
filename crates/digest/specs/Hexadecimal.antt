-- A checksum as text: 64 hexadecimal digits, with the letters a to f.
use Rattle.std.specs.Prelude.{ℕ, ◌+◌, cond, List, [], ◌∷◌, ◌++◌, map, nat_lt}
use Rattle.digest.specs.declared.Digest.{Digest}
use Rattle.digest.specs.Sha256.{digits}

-- the byte of a digit: 0 to 9 from 48 on, a to f from 97 on
unfoldable pub hex_byte : ℕ → ℕ
hex_byte n = cond (nat_lt n 10) (48 + n) (87 + n)

-- a word in eight digits
unfoldable pub hex_word : ℕ → List ℕ
hex_word x = map hex_byte (digits 4 8 x)

unfoldable pub hex_words : List ℕ → List ℕ
hex_words [] = []
hex_words (x ∷ xs) = hex_word x ++ hex_words xs

abbrev pub words_of : Digest → List ℕ
words_of d = d.a ∷ d.b ∷ d.c ∷ d.d ∷ d.e ∷ d.f ∷ d.g ∷ d.h ∷ []

abbrev pub hexadecimal : Digest → List ℕ
hexadecimal d = hex_words (words_of d)
