-- Numbers lie within a limit exactly if the lowest and the highest of them do: how far these are below and above 0 is all that the test looks at.
use Rattle.std.proofs.Common.{◌≡◌, ℕ, zero, suc, ◌+◌, ◌<◌, ◌≤◌, max, length, take, Bool, true, false, not, ◌&&◌, List, [], ◌∷◌, leb, ℤ, pos, nat_abs, sym, refl, ap, ap₂, ◌∙◌, arith}
use lib.IntN.{negsuc}
use mathlib.Core.Bool.{and-true, and_assoc}
use native.Mathlib.Decide.{dec_le}
use native.Mathlib.Numerals.{add-one}
use borrow.Author.Tests.{le-leb, lt-leb, le-ltb, lt-ltb}
use lib.Dec.{leb-zero}
use lib.ListN.{get_or}
use lib.Signed.{lt_z}
use Rattle.whole.specs.Integers.{up, dn}
use Rattle.rules.specs.Units.{sample_limit}
use Rattle.rules.specs.Descriptions.{samples_fit}

-- ---- one test of two numbers

pub leb-max : (a b n : ℕ) → leb (max a b) n ≡ leb a n && leb b n
leb-max a b n = by (dec_le a n) (dec_le b n)
  where
    by : Dec (a ≤ n) → Dec (b ≤ n) → leb (max a b) n ≡ leb a n && leb b n
    by (yes p) (yes q) = rw (le-leb a n p, le-leb b n q) (le-leb (max a b) n (omega arith))
    by (yes p) (no q) = rw (le-leb a n p, lt-leb b n (omega arith)) (lt-leb (max a b) n (omega arith))
    by (no p) q = rw (lt-leb a n (omega arith)) (lt-leb (max a b) n (omega arith))

-- a number is within a limit if it is neither too far below nor too far above 0
both-sides : (z : ℤ) (n : ℕ) → leb (nat_abs z) n ≡ leb (dn z) n && leb (up z) n
both-sides (pos a) n = rw leb-zero
both-sides (negsuc a) n = rw leb-zero (sym (and-true (leb (suc a) n)))

-- the test `z < -limit`, with limit = suc n
pub too-low : (z : ℤ) (n : ℕ) → lt_z z (negsuc n) ≡ not (leb (dn z) (suc n))
too-low (pos a) n = rw leb-zero
too-low (negsuc a) n = by (dec_le a n)
  where
    by : Dec (a ≤ n) → lt_z (negsuc a) (negsuc n) ≡ not (leb (suc a) (suc n))
    by (yes h) = rw (le-ltb n a h, le-leb (suc a) (suc n) (omega arith))
    by (no h) = rw (lt-ltb n a (omega arith), lt-leb (suc a) (suc n) (omega arith))

-- ---- the numbers passed

-- the lowest of the first i numbers is `low` below 0 and the highest `high` above 0, and these decide whether all fit
abbrev pub Spanned : List ℤ → ℕ → ℕ → ℕ → Type 0
Spanned xs i low high = samples_fit (take i xs) ≡ leb low sample_limit && leb high sample_limit

pub none_passed : (xs : List ℤ) → Spanned xs 0 0 0
unfolding samples_fit
none_passed xs = refl

fit-more : (xs : List ℤ) (i : ℕ) → i < length xs → samples_fit (take (suc i) xs) ≡ samples_fit (take i xs) && leb (nat_abs (get_or xs i (pos 0))) sample_limit
unfolding samples_fit
fit-more [] i h = absurd (omega arith)
fit-more (x ∷ xs) zero h = and-true _
fit-more (x ∷ xs) (suc i) h = ap (λ t. leb (nat_abs x) sample_limit && t) (fit-more xs i (omega arith)) ∙ sym (and_assoc (leb (nat_abs x) sample_limit) _ _)

crosswise : (a b c d : Bool) → (a && b) && (c && d) ≡ (c && a) && (d && b)
crosswise true true c d = rw (and-true c, and-true d)
crosswise true false true true = refl
crosswise true false true false = refl
crosswise true false false d = refl
crosswise false b true d = refl
crosswise false b false d = refl

-- one number more
pub one_more : (xs : List ℤ) (i low high : ℕ) → i < length xs → Spanned xs i low high
    → let z = get_or xs i (pos 0) in Spanned xs (i + 1) (max (dn z) low) (max (up z) high)
one_more xs i low high h s =
    let z = get_or xs i (pos 0) in
    ap (λ k. samples_fit (take k xs)) (add-one i)
    ∙ fit-more xs i h
    ∙ ap₂ (λ x y. x && y) s (both-sides z sample_limit)
    ∙ crosswise (leb low sample_limit) (leb high sample_limit) (leb (dn z) sample_limit) (leb (up z) sample_limit)
    ∙ sym (ap₂ (λ x y. x && y) (leb-max (dn z) low sample_limit) (leb-max (up z) high sample_limit))
