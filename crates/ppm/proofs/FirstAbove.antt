-- The first code above m is above m, and where there is none, no code is.
use Prim.Native.Nat.{ℕ, suc, ◌≤◌, ◌<◌}
use mathlib.Core.Path.{◌≡◌, refl}
use mathlib.Core.Bool.{Bool, true, false, cond, ◌&&◌}
use mathlib.Core.List.{List, [], ◌∷◌}
use native.Mathlib.Omega.{arith}
use borrow.Author.Tests.{leb-false, ltb-true, ltb-false}
use lib.Dec.{leb, ltb}
use lib.ListN.{length, get_or}
use Rattle.std.specs.Prelude.{Option, Some, None}
use Rattle.rules.specs.Reading.Lines.{every, run}
use Rattle.rules.proofs.Tests.{both-and}
use Rattle.ppm.specs.Excess.{colour_at, excess_at, within, first_above}
use Rattle.ppm.specs.declared.excess.Excess.{Excess}

-- what an answer says of m and the codes
abbrev pub Tells : ℕ → List ℕ → Option Excess → Type 0
Tells m codes None = every (λ c. leb c m) codes ≡ true
Tells m codes (Some excess) = m < excess.code

module _ (m : ℕ) where
  -- a code at the end of the run is above m
  stops : (codes : List ℕ) → within m codes < length codes → m < get_or codes (within m codes) 0
  unfolding run
  stops [] h = absurd (omega arith)
  stops (c ∷ rest) h = by (leb c m) refl h (stops rest)
    where
      by : (t : Bool) → leb c m ≡ t → length (cond t (c ∷ run (λ c. leb c m) rest) []) < suc (length rest) → (within m rest < length rest → m < get_or rest (within m rest) 0)
          → m < get_or (c ∷ rest) (length (cond t (c ∷ run (λ c. leb c m) rest) [])) 0
      by true e h later = later (omega arith)
      by false e h later = leb-false c m e

  -- a run to the end is all codes
  passes : (codes : List ℕ) → length codes ≤ within m codes → every (λ c. leb c m) codes ≡ true
  unfolding run every
  passes [] h = refl
  passes (c ∷ rest) h = by (leb c m) refl h (passes rest)
    where
      by : (t : Bool) → leb c m ≡ t → suc (length rest) ≤ length (cond t (c ∷ run (λ c. leb c m) rest) []) → (length rest ≤ within m rest → every (λ c. leb c m) rest ≡ true)
          → leb c m && every (λ c. leb c m) rest ≡ true
      by true e h later = both-and _ _ e (later (omega arith))
      by false e h later = absurd (omega arith)

  ends : (codes : List ℕ) (t : Bool) → ltb (within m codes) (length codes) ≡ t → Tells m codes (cond t (Some (record { colour = colour_at (within m codes); code = get_or codes (within m codes) 0 })) None)
  ends codes true e = stops codes (ltb-true _ _ e)
  ends codes false e = passes codes (ltb-false _ _ e)

  pub above-m : (codes : List ℕ) → Tells m codes (first_above m codes)
  unfolding excess_at
  above-m codes = ends codes _ refl
