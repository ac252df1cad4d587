-- Lists of digits of one length that spell the same number are the same list. Lists of two lengths are compared with zeros put after them, or before them.
use Prim.Native.Nat.{ℕ, zero, suc, ◌+◌, ◌-◌, ◌*◌, ◌^◌, ◌≤◌, ◌<◌}
use mathlib.Core.Path.{◌≡◌, refl, sym, ap, ap₂, ◌∙◌}
use mathlib.Core.Bool.{true}
use mathlib.Core.List.{List, [], ◌∷◌, ◌++◌}
use native.Mathlib.Nat.{mul_assoc, pow-succ', zero-mul}
use native.Mathlib.Decide.{dec_le}
use native.Mathlib.Omega.{arith}
use lib.ListN.{length, get_or, take, replicate, length-append, length-replicate, get_or-replicate, get_or-append}
use lib.Seq.{get_or-append-add, take-append_seam, take_at}
use Rattle.rules.specs.Reading.Lines.{digit, every}
use Rattle.rules.specs.Reading.Numerals.{spell}
use Rattle.rules.proofs.Tests.{and_both}
use Rattle.rules.proofs.Reading.Numbers.{digit-range, spell-append}
use Rattle.rules.proofs.Reading.Runs.{every_append}

-- after any two numbers: then these are the same too
pub same_digits : (m n : ℕ) (a b : List ℕ) → every digit a ≡ true → every digit b ≡ true → length a ≡ length b → spell m a ≡ spell n b → (m ≡ n) × (a ≡ b)
unfolding every spell
same_digits m n [] [] p q l e = (e, refl)
same_digits m n [] (y ∷ b) p q l e = absurd (omega arith)
same_digits m n (x ∷ a) [] p q l e = absurd (omega arith)
same_digits m n (x ∷ a) (y ∷ b) p q l e =
    let (dx, da) = and_both (digit x) (every digit a) p in
    let (dy, db) = and_both (digit y) (every digit b) q in
    let (heads, tails) = same_digits (m * 10 + (x - 48)) (n * 10 + (y - 48)) a b da db (omega arith) e in
    let first : x ≡ y = omega (arith, heads, digit-range x dx, digit-range y dy) in
    (omega (arith, heads, digit-range x dx, digit-range y dy), ap₂ (λ (c : ℕ) (r : List ℕ). c ∷ r) first tails)

-- ---- zeros

-- so many zeros: digits, and so many
abbrev pub zeros : ℕ → List ℕ
zeros k = replicate k 48

pub zeros-long : (k : ℕ) → length (zeros k) ≡ k
zeros-long k = length-replicate {A = ℕ} k 48

pub zeros-digits : (k : ℕ) → every digit (zeros k) ≡ true
unfolding every
zeros-digits zero = refl
zeros-digits (suc k) = zeros-digits k

-- each zero after a number makes it ten times as much
zeros-spell : (m k : ℕ) → spell m (zeros k) ≡ m * 10 ^ k
unfolding spell
zeros-spell m zero = omega arith
zeros-spell m (suc k) =
    let same : m * 10 + (48 - 48) ≡ m * 10 = omega arith in
    ap (λ (x : ℕ). spell x (zeros k)) same ∙ zeros-spell (m * 10) k ∙ mul_assoc m 10 (10 ^ k) ∙ ap (λ (x : ℕ). m * x) (sym (pow-succ' 10 k))

zeros-after : (m k : ℕ) (l : List ℕ) → spell m (l ++ zeros k) ≡ spell m l * 10 ^ k
zeros-after m k l = spell-append m l (zeros k) ∙ zeros-spell (spell m l) k

-- those before it make no difference
pub zeros-before : (k : ℕ) (l : List ℕ) → spell 0 (zeros k ++ l) ≡ spell 0 l
zeros-before k l = spell-append 0 (zeros k) l ∙ ap (λ (x : ℕ). spell x l) (zeros-spell 0 k ∙ zero-mul (10 ^ k))

-- ---- digits before and after a point, of the same worth

module _ (h d : ℕ) (f p : List ℕ) (f-digits : every digit f ≡ true) (p-digits : every digit p ≡ true)
    (worth : spell h f * 10 ^ length p ≡ spell d p * 10 ^ length f) where
  -- with zeros after each of the lists both are as long
  padded : (h ≡ d) × (f ++ zeros (length p) ≡ p ++ zeros (length f))
  padded =
      let as_long : length (f ++ zeros (length p)) ≡ length (p ++ zeros (length f)) =
      omega (arith, length-append f (zeros (length p)), length-append p (zeros (length f)), zeros-long (length p), zeros-long (length f)) in
      same_digits h d (f ++ zeros (length p)) (p ++ zeros (length f))
      (every_append digit f _ f-digits (zeros-digits (length p))) (every_append digit p _ p-digits (zeros-digits (length f)))
      as_long (zeros-after h (length p) f ∙ worth ∙ sym (zeros-after d (length f) p))

  -- the numbers before the point are the same
  pub same_whole : h ≡ d
  same_whole = padded.0

  -- if the second list does not end with 0, the first is not shorter
  pub no-shorter : (0 < length p → 48 < get_or p (length p - 1) 0) → length p ≤ length f
  no-shorter last = by (dec_le (length p) (length f))
    where
      i : ℕ
      i = length p - 1

      -- the last of the second would be one of the zeros after the first
      clash : length f < length p → ⊥
      clash lt =
          let in-zeros : i ≡ length f + (i - length f) = omega arith in
          let zero-there : get_or (f ++ zeros (length p)) (length f + (i - length f)) 0 ≡ 48 =
          get_or-append-add f (zeros (length p)) (i - length f) 0 ∙ get_or-replicate {A = ℕ} (length p) (i - length f) 48 0 (omega arith) in
          let last-there : get_or (p ++ zeros (length f)) i 0 ≡ get_or p i 0 = get_or-append p (zeros (length f)) 0 i (omega arith) in
          let both : get_or p i 0 ≡ 48 =
          sym last-there ∙ ap (λ (x : List ℕ). get_or x i 0) (sym padded.1) ∙ ap (λ (x : ℕ). get_or (f ++ zeros (length p)) x 0) in-zeros ∙ zero-there in
          omega (arith, both, last (omega arith))

      by : Dec (length p ≤ length f) → length p ≤ length f
      by (yes le) = le
      by (no nle) = absurd (clash (omega arith))

  -- and if they have one length they are the same
  pub same-fraction : length f ≡ length p → f ≡ p
  same-fraction l = sym (take_at f _ (length p) l) ∙ ap (λ (x : List ℕ). take (length p) x) padded.1 ∙ take-append_seam p _
