-- A piece of a file, from a place to another: how long it is, and that it is its parts before and after one of its bytes.
use Prim.Native.Nat.{ℕ, suc, ◌+◌, ◌-◌, ◌≤◌, ◌<◌}
use mathlib.Core.Path.{◌≡◌, sym, ap, ◌∙◌}
use mathlib.Core.List.{List, ◌∷◌, ◌++◌}
use native.Mathlib.Numerals.{add-one}
use native.Mathlib.Omega.{arith}
use lib.ListN.{length, get_or, take, drop, length-drop, take-append-drop}
use lib.Seq.{drop-cons, drop-drop, length-take-le, take-add}
use Rattle.numbers.specs.Parts.{part}

module _ (s : List ℕ) where
  pub piece-length : (from to : ℕ) → from ≤ to → to ≤ length s → length (part s from to) ≡ to - from
  piece-length from to h n = length-take-le (to - from) (drop from s) (omega (arith, length-drop from s))

  -- so many bytes from a place on
  pub piece_of : (from k to : ℕ) → to ≡ from + k → part s from to ≡ take k (drop from s)
  piece_of from k to e = let long : to - from ≡ k = omega arith in ap (λ n. take n (drop from s)) long

  -- up to a byte, the byte, and from there on
  pub piece_cut : (from at to : ℕ) → from ≤ at → at < to → to ≤ length s → part s from to ≡ part s from at ++ (get_or s at 0 ∷ part s (at + 1) to)
  piece_cut from at to h n l =
      let k : ℕ = at - from in
      let m : ℕ = to - (at + 1) in
      let here : from + k ≡ at = omega arith in
      let long : to - from ≡ k + suc m = omega arith in
      ap (λ i. take i (drop from s)) long
      ∙ take-add k (suc m) (drop from s)
      ∙ ap (λ l. take k (drop from s) ++ take (suc m) l) (drop-drop k from s ∙ ap (λ i. drop i s) here ∙ drop-cons s at 0 (omega arith))
      ∙ ap (λ i. take k (drop from s) ++ (get_or s at 0 ∷ take m (drop i s))) (sym (add-one at))

  -- what stands from a place on is the piece up to a byte, the byte, and the rest
  pub rest-cut : (from at : ℕ) → from ≤ at → at < length s → drop from s ≡ part s from at ++ (get_or s at 0 ∷ drop (at + 1) s)
  rest-cut from at h n =
      let k : ℕ = at - from in
      let here : from + k ≡ at = omega arith in
      sym (take-append-drop k (drop from s))
      ∙ ap (λ l. take k (drop from s) ++ l) (drop-drop k from s ∙ ap (λ i. drop i s) here ∙ drop-cons s at 0 n)
      ∙ ap (λ i. take k (drop from s) ++ (get_or s at 0 ∷ drop i s)) (sym (add-one at))
