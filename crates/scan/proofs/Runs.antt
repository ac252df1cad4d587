-- A run of bytes of one kind: where it ends, by what stands at the place that a scan has come to, and what stands in it and after it.
use Prim.Native.Nat.{ℕ, zero, suc, ◌+◌, ◌-◌, ◌≤◌, ◌<◌}
use mathlib.Core.Path.{◌≡◌, refl, sym, ap, ◌∙◌}
use mathlib.Core.Bool.{Bool, true, false, cond, ◌&&◌}
use mathlib.Core.List.{List, [], ◌∷◌}
use native.Mathlib.Numerals.{add-one}
use native.Mathlib.Omega.{arith}
use borrow.Author.Tests.{le-ltb, lt-ltb}
use lib.Dec.{eqb, eqb-suc-suc, eqb-zero-suc, ltb}
use lib.ListN.{length, get_or, take, drop, drop_of_length-le, length-drop}
use lib.Seq.{drop-cons, drop-drop, take_all, take_at, drop_at}
use Rattle.rules.specs.Reading.Lines.{after, every, run, starts}
use Rattle.rules.proofs.Reading.Runs.{run-after}
use Rattle.scan.specs.RunEnds.{run_end}

-- ---- one byte more, a byte that stops it, and the end

module _ (kind : ℕ → Bool) (s : List ℕ) (i : ℕ) where
  pub run_more : i < length s → kind (get_or s i 0) ≡ true → run_end kind s i ≡ run_end kind s (i + 1)
  unfolding run
  run_more h e = rw (drop-cons s i 0, e, add-one) (omega arith)

  pub run-stop : i < length s → kind (get_or s i 0) ≡ false → run_end kind s i ≡ i
  unfolding run
  run-stop h e = rw (drop-cons s i 0, e) (omega arith)

  pub run-over : length s ≤ i → run_end kind s i ≡ i
  unfolding run
  run-over h = rw (drop_of_length-le s h) (omega arith)

-- a run is no longer than its list
pub run-le : (kind : ℕ → Bool) (s : List ℕ) → length (run kind s) ≤ length s
unfolding run
run-le kind [] = omega arith
run-le kind (b ∷ rest) = split (kind b) (run-le kind rest)
  where
    split : (t : Bool) → length (run kind rest) ≤ length rest → length (cond t (b ∷ run kind rest) []) ≤ suc (length rest)
    split true h = omega arith
    split false h = omega arith

-- ---- a run and what stands after it are parts of the list, by the run's length and by its end

-- the part of a list from a place to its end
pub part_to_end : (s : List ℕ) (p : ℕ) → take (length s - p) (drop p s) ≡ drop p s
part_to_end s p = take_all (length s - p) (drop p s) (omega (arith, length-drop p s))

module _ (kind : ℕ → Bool) where
  pub take-run : (l : List ℕ) → take (length (run kind l)) l ≡ run kind l
  take-run l = ap (take (length (run kind l))) (run-after kind l) ∙ take_at (run kind l) (after kind l) _ refl

  pub drop-run : (l : List ℕ) → drop (length (run kind l)) l ≡ after kind l
  drop-run l = ap (drop (length (run kind l))) (run-after kind l) ∙ drop_at (run kind l) (after kind l) _ refl

  -- the part from a run's length on
  pub part-after : (l : List ℕ) (n : ℕ) → n ≡ length (run kind l) → take (length l - n) (drop n l) ≡ after kind l
  part-after l n e = part_to_end l n ∙ ap (λ k. drop k l) e ∙ drop-run l

  -- a run is there where the first byte is of the kind
  pub run-there : (l : List ℕ) → starts kind l ≡ ltb 0 (length (run kind l))
  unfolding run starts
  run-there [] = refl
  run-there (b ∷ rest) = by (kind b)
    where
      by : (t : Bool) → t ≡ ltb 0 (length (cond t (b ∷ run kind rest) []))
      by true = sym (lt-ltb 0 (suc (length (run kind rest))) (omega arith))
      by false = refl

  -- from a place on
  module _ (s : List ℕ) (p : ℕ) where
    pub end-within : p ≤ length s → run_end kind s p ≤ length s
    end-within h = omega (arith, run-le kind (drop p s), length-drop p s)

    pub take-to-end : take (run_end kind s p - p) (drop p s) ≡ run kind (drop p s)
    take-to-end =
        let k = length (run kind (drop p s)) in
        let e : p + k - p ≡ k = omega arith in
        rw e (take-run (drop p s))

    pub drop-to-end : drop (run_end kind s p) s ≡ after kind (drop p s)
    drop-to-end = sym (drop-drop (length (run kind (drop p s))) p s) ∙ drop-run (drop p s)

    -- the run is there where it ends further on
    pub end-further : ltb p (run_end kind s p) ≡ starts kind (drop p s)
    end-further = further (length (run kind (drop p s))) ∙ sym (run-there (drop p s))
      where
        further : (n : ℕ) → ltb p (p + n) ≡ ltb 0 n
        further zero = rw (le-ltb p (p + 0) (omega arith), le-ltb 0 0 (omega arith))
        further (suc n) = rw (lt-ltb p (p + suc n) (omega arith), lt-ltb 0 (suc n) (omega arith))

  -- every byte is of the kind where the run is as long as the list
  pub every-run : (l : List ℕ) → every kind l ≡ eqb (length (run kind l)) (length l)
  unfolding every run
  every-run [] = refl
  every-run (b ∷ rest) = split (kind b) (every-run rest)
    where
      split : (t : Bool) → every kind rest ≡ eqb (length (run kind rest)) (length rest) → (t && every kind rest) ≡ eqb (length (cond t (b ∷ run kind rest) [])) (suc (length rest))
      split true ih = rw eqb-suc-suc ih
      split false ih = rw eqb-zero-suc

  -- the first byte, where there is one
  pub starts-empty : (l : List ℕ) → length l ≡ 0 → starts kind l ≡ false
  unfolding starts
  starts-empty [] h = refl
  starts-empty (b ∷ rest) h = absurd (omega arith)

  pub starts_first : (l : List ℕ) → (length l ≡ 0 → ⊥) → starts kind l ≡ kind (get_or l 0 0)
  unfolding starts
  starts_first [] h = absurd (h refl)
  starts_first (b ∷ rest) h = refl
