-- The digits of a number, each by its place.
use Rattle.std.proofs.Common.{◌≡◌, ℕ, zero, suc, ◌-◌, ◌*◌, ◌/◌, ◌%◌, ◌^◌, ◌<◌, List, [], ◌∷◌, map, length, get_or, refl, ap, ◌∙◌, arith}
use Rattle.digest.specs.Sha256.{digits}

pub digits-length : (bits count n : ℕ) → length (digits bits count n) ≡ count
unfolding digits
digits-length bits zero n = refl
digits-length bits (suc count) n = ap suc (digits-length bits count n)

pub digits-at : (bits count n i : ℕ) → i < count → get_or (digits bits count n) i 0 ≡ n / 2 ^ (bits * (count - 1 - i)) % 2 ^ bits
unfolding digits
digits-at bits zero n i h = absurd (omega arith)
digits-at bits (suc count) n zero h = ap (λ place. n / 2 ^ (bits * place) % 2 ^ bits) (omega arith)
digits-at bits (suc count) n (suc i) h = digits-at bits count n i (omega arith) ∙ ap (λ place. n / 2 ^ (bits * place) % 2 ^ bits) (omega arith)

-- a text made of digits has the text of each at its place
pub map_at : (f : ℕ → ℕ) (l : List ℕ) (i : ℕ) → i < length l → get_or (map f l) i 0 ≡ f (get_or l i 0)
map_at f [] i h = absurd (omega arith)
map_at f (x ∷ l) zero h = refl
map_at f (x ∷ l) (suc i) h = map_at f l i (omega arith)
