-- Digits one after another from a place on: one more of them, four at once, and how great the number is that they spell.
use Prim.Native.Nat.{ℕ, ◌+◌, ◌-◌, ◌*◌, ◌^◌, ◌≤◌, ◌<◌}
use mathlib.Core.Path.{◌≡◌, refl, sym, ap, ap₂, ◌∙◌}
use mathlib.Core.Bool.{Bool, true, false, ◌&&◌}
use mathlib.Core.List.{List, [], ◌∷◌, ◌++◌}
use native.Mathlib.Nat.{add-mul, add-zero, min-le_left, one-mul, mul-le-mul_left, mul-le-mul_right, pow-le-pow_right}
use native.Mathlib.Numerals.{add-one}
use native.Mathlib.Omega.{arith}
use lib.ListN.{length, get_or, take, drop, length-drop, length-take}
use lib.Seq.{take-suc, take-add, drop-drop, get_or-drop}
use Rattle.rules.specs.Reading.Lines.{digit, every}
use Rattle.rules.specs.Reading.Numerals.{spell}
use Rattle.rules.proofs.Tests.{and_both, both-and}
use Rattle.rules.proofs.Reading.Numbers.{spell-append}
use Rattle.rules.proofs.Reading.Runs.{every_append}
use Rattle.numbers.proofs.Digits.{spell-after, spell-less}
use Rattle.plain.specs.Shapes.{Spelt}
use Rattle.plain.specs.declared.digits.Digits.{Digits}

-- k digits stand from a place on, and spell a number after m
pub record SoFar (s : List ℕ) (from m k value : ℕ) : Type 0 where
  pub all : every digit (take k (drop from s)) ≡ true
  pub value_so : value ≡ spell m (take k (drop from s))

pub none_yet : (s : List ℕ) (from m : ℕ) → SoFar s from m 0 m
unfolding every spell
none_yet s from m = record { all = refl; value_so = refl }

-- one byte more of a list from a place on
pub take-one-more : (s : List ℕ) (from k : ℕ) → from + k < length s → take (k + 1) (drop from s) ≡ take k (drop from s) ++ (get_or s (from + k) 0 ∷ [])
take-one-more s from k h =
    ap (λ n. take n (drop from s)) (add-one k)
    ∙ take-suc (drop from s) k 0 (omega (arith, length-drop from s))
    ∙ ap (λ b. take k (drop from s) ++ (b ∷ [])) (get_or-drop from s k 0)

pub one_more : {s : List ℕ} {from m k value : ℕ} → SoFar s from m k value → from + k < length s → digit (get_or s (from + k) 0) ≡ true
    → SoFar s from m (k + 1) (value * 10 + (get_or s (from + k) 0 - 48))
unfolding every spell
one_more {s} {from} {m} {k} {value} f h d = record {
  all = ap (every digit) (take-one-more s from k h) ∙ every_append digit (take k (drop from s)) (get_or s (from + k) 0 ∷ []) f.all (both-and _ _ d refl);
  value_so = ap (λ n. n * 10 + (get_or s (from + k) 0 - 48)) f.value_so
      ∙ sym (ap (spell m) (take-one-more s from k h) ∙ spell-append m (take k (drop from s)) (get_or s (from + k) 0 ∷ []));
}

-- at most k digits after a number of at most a spell less than a + 1 with k zeros
pub spelt-less : (m a k : ℕ) (ds : List ℕ) → m ≤ a → length ds ≤ k → every digit ds ≡ true → spell m ds < (a + 1) * 10 ^ k
spelt-less m a k ds h n e =
    let t : ℕ = 10 ^ length ds in
    let wide : (m + 1) * t ≡ m * t + 1 * t = add-mul m 1 t in
    let more : (m + 1) * t ≤ (a + 1) * t = mul-le-mul_right t (omega arith) in
    let longer : (a + 1) * t ≤ (a + 1) * 10 ^ k = mul-le-mul_left (a + 1) (pow-le-pow_right (omega arith) n) in
    omega (arith, spell-after m ds, spell-less ds e, one-mul t)

-- three digits after four, or after none, are fewer than eight
pub so-far-small : {s : List ℕ} {from m k value : ℕ} → SoFar s from m k value → m ≤ 9_999 → k ≤ 3 → value < 10_000_000
so-far-small {s} {from} {m} {k} f h n =
    let few : length (take k (drop from s)) ≤ 3 = omega (arith, length-take k (drop from s), min-le_left k (length (drop from s))) in
    rw f.value_so (spelt-less m 9_999 3 (take k (drop from s)) h few f.all)

-- ---- four digits at once

regroup : (p q r t : Bool) → (((p && q) && r) && t) ≡ (p && (q && (r && (t && true))))
regroup false q r t = refl
regroup true false r t = refl
regroup true true false t = refl
regroup true true true false = refl
regroup true true true true = refl

pub four-tests : {p q r t : Bool} (a b c d : ℕ) → p ≡ digit a → q ≡ digit b → r ≡ digit c → t ≡ digit d
    → (((p && q) && r) && t) ≡ every digit (a ∷ b ∷ c ∷ d ∷ [])
unfolding every
four-tests a b c d e f g h = (λ i. (((e i && f i) && g i) && h i)) ∙ regroup (digit a) (digit b) (digit c) (digit d)

pub record AreDigits (a b c d : ℕ) : Type 0 where
  pub first : digit a ≡ true
  pub second : digit b ≡ true
  pub third : digit c ≡ true
  pub fourth : digit d ≡ true

pub four-digits : (a b c d : ℕ) → every digit (a ∷ b ∷ c ∷ d ∷ []) ≡ true → AreDigits a b c d
unfolding every
four-digits a b c d h =
    let (x, more) = and_both _ _ h in
    let (y, rest) = and_both _ _ more in
    let (z, last) = and_both _ _ rest in
    record { first = x; second = y; third = z; fourth = (and_both _ _ last).0 }

-- the bytes that were read
pub four-read : (s : List ℕ) (from : ℕ) → from + 4 ≤ length s
    → take 4 (drop from s) ≡ get_or s from 0 ∷ get_or s (from + 1) 0 ∷ get_or s (from + 2) 0 ∷ get_or s (from + 3) 0 ∷ []
four-read s from h =
    let one = ap (λ n. get_or s n 0 ∷ []) (add-zero from) in
    take-one-more s from 3 (omega arith)
    ∙ ap (λ l. l ++ (get_or s (from + 3) 0 ∷ [])) (
    take-one-more s from 2 (omega arith)
    ∙ ap (λ l. l ++ (get_or s (from + 2) 0 ∷ [])) (
    take-one-more s from 1 (omega arith)
    ∙ ap (λ l. l ++ (get_or s (from + 1) 0 ∷ [])) (take-one-more s from 0 (omega arith) ∙ one)))

-- four digits, and at most three after them
pub four-and-more : {s : List ℕ} {from m : ℕ} {d : Digits} (four : List ℕ) → take 4 (drop from s) ≡ four → every digit four ≡ true → m ≡ spell 0 four
    → Spelt s (from + 4) m 3 d → Spelt s from 0 7 d
four-and-more {s} {from} {m} four e all v f =
    let k : ℕ = f.count in
    let joined : take (4 + k) (drop from s) ≡ four ++ take k (drop (from + 4) s) =
    take-add 4 k (drop from s) ∙ ap₂ (λ x y. x ++ take k y) e (drop-drop 4 from s) in
    record {
      count = 4 + k;
      few = omega (arith, f.few);
      next_so = f.next_so ∙ omega arith;
      all = ap (every digit) joined ∙ every_append digit four _ all f.all;
      value_so = f.value_so ∙ ap (λ n. spell n (take k (drop (from + 4) s))) v ∙ sym (ap (spell 0) joined ∙ spell-append 0 four _);
    }

-- at most three are at most seven
pub fewer : {s : List ℕ} {from m : ℕ} {d : Digits} → Spelt s from m 3 d → Spelt s from m 7 d
fewer f = record { count = f.count; few = omega (arith, f.few); next_so = f.next_so; all = f.all; value_so = f.value_so }
