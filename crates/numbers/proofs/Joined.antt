-- Two lists cut at their own places are the list that they make together, cut at one.
use Prim.Native.Nat.{ℕ, ◌+◌, ◌-◌, ◌≤◌, min}
use mathlib.Core.Path.{◌≡◌, refl, sym, subst, ◌∙◌}
use mathlib.Core.List.{List, ◌++◌, append-nil}
use native.Mathlib.Decide.{dec_le}
use native.Mathlib.Omega.{arith}
use lib.ListN.{length, take, drop, length-append, drop_of_length-le}
use lib.Seq.{take_all, take-length, drop-length, take-append-le, drop-append-le, take-append-add, drop-append-add}

record Same (l : List ℕ) (m n : ℕ) : Type 0 where
  front : take m l ≡ take n l
  back : drop m l ≡ drop n l

-- a cut past the end is one at the end
at-end : (l : List ℕ) (n : ℕ) → Same l (min n (length l)) n
at-end l n = by (dec_le n (length l))
  where
    by : Dec (n ≤ length l) → Same l (min n (length l)) n
    by (yes h) = let e : min n (length l) ≡ n = omega arith in rw e (record { front = refl; back = refl })
    by (no h) =
        let e : min n (length l) ≡ length l = omega arith in
        let k : length l ≤ n = omega arith in
        rw e (record { front = take-length l ∙ sym (take_all n l k); back = drop-length l ∙ sym (drop_of_length-le l k) })

-- v and w cut at a and b are v ++ w cut at c
pub record Cut (v w : List ℕ) (c a b : ℕ) : Type 0 where
  pub front : take a v ++ take b w ≡ take c (v ++ w)
  pub back : drop a v ++ drop b w ≡ drop c (v ++ w)
  pub zeros : c - a - b ≡ c - length (v ++ w)

-- past the first
cut-past : (v w : List ℕ) (d : ℕ) → Cut v w (length v + d) (length v) (min d (length w))
cut-past v w d =
    let k : Same w (min d (length w)) d = at-end w d in
    record {
      front = rw (take-length v, k.front) (sym (take-append-add v w d));
      back = rw (drop-length v, k.back) (sym (drop-append-add v w d));
      zeros = omega (arith, length-append v w);
    }

pub cut : (v w : List ℕ) (c a b : ℕ) → a ≡ min c (length v) → b ≡ min (c - a) (length w) → Cut v w c a b
cut v w c a b e f = by (dec_le c (length v))
  where
    by : Dec (c ≤ length v) → Cut v w c a b
    by (yes h) =
        let x : a ≡ c = omega arith in
        let y : b ≡ 0 = omega arith in
        rw (y, x)
        (record {
          front = append-nil (take c v) ∙ sym (take-append-le c v w h);
          back = sym (drop-append-le c v w h);
          zeros = omega (arith, length-append v w);
        })
    by (no h) =
        let x : a ≡ length v = omega arith in
        let y : b ≡ min (c - length v) (length w) = omega arith in
        let z : length v + (c - length v) ≡ c = omega arith in
        rw (y, x) (subst (λ k. Cut v w k (length v) (min (c - length v) (length w))) z (cut-past v w (c - length v)))
