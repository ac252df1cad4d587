-- The promise of `erythmoda_check` refutes wrong calls. A call is given its input and the lent memory as it was, and answers a number and that memory as it is
-- afterwards. What a wrong call does is said of any call at all; that it keeps the promise is then absurd, at an input that the theorem holds.
use Prim.Native.Nat.{ℕ}
use mathlib.Core.Path.{◌≡◌, sym, ◌∙◌}
use mathlib.Core.List.{List}
use native.Mathlib.Omega.{arith}
use lib.IntN.{ℤ}
use Rattle.rules.specs.Reading.Lines.{bytes}
use Rattle.rules.specs.Reading.{check}
use Rattle.rules.specs.Boundary.{ChecksC}
use Rattle.signature.specs.Cases.{corner, untouched}
use Rattle.signature.proofs.Boundary.Checks.{CheckLaid, check-laid, check-refused}
use Rattle.signature.proofs.Boundary.Numbers.{checks-c-number}
use Rattle.signature.proofs.Cases.{opened}
use Rattle.signature.proofs.Reading.WrongChecks as W

-- the memory that check is lent
pub record CheckLent : Type 0 where
  pub eleven : List ℤ
  pub line : ℕ
  pub places : ℕ

abbrev pub CheckCall : Type 0
CheckCall = List ℕ → CheckLent → ℕ × CheckLent

abbrev pub ChecksCAll : CheckCall → Type 0
ChecksCAll call = (file : List ℕ) (lent : CheckLent)
    → ChecksC file (call file lent).0 (call file lent).1.eleven (call file lent).1.line (call file lent).1.places

-- 77 wherever check writes
abbrev sevens : CheckLent
sevens = record { eleven = untouched 11; line = 77; places = 77 }

module _ (call : CheckCall) (keeps : ChecksCAll call) where
  abbrev answered : List ℕ → CheckLent → ℕ
  answered file lent = (call file lent).0

  abbrev left : List ℕ → CheckLent → CheckLent
  left file lent = (call file lent).1

  -- the checker that the call makes
  abbrev laid : (file : List ℕ) → CheckLaid file (answered file sevens) (left file sevens).eleven (left file sevens).line (left file sevens).places
  laid file = check-laid.0 (keeps file sevens)

  abbrev checker : W.Checker
  checker file = (laid file).answer

  checker-keeps : W.ChecksAll checker
  checker-keeps file = (laid file).checks

  pub refuses-all-files : ((file : List ℕ) (lent : CheckLent) → answered file lent ≡ 0 → ⊥) → ⊥
  refuses-all-files never = W.refuses-all-files checker checker-keeps (λ file z. never file sevens ((laid file).number_so ∙ z))

  -- 13 of any file at all
  pub answers-13 : (file : List ℕ) (lent : CheckLent) → answered file lent ≡ 13 → ⊥
  answers-13 file lent e = (checks-c-number (keeps file lent)).1 e

  abbrev cube : List ℕ
  cube = bytes corner

  cube-places : (left cube sevens).places ≡ 24
  unfolding opened check
  cube-places = (keeps cube sevens).places_so

  -- the 3D file of document 01 has N = 2, and so 8 rows and 24 places: rows for places
  pub counts-rows-for-places : (left cube sevens).places ≡ 8 → ⊥
  counts-rows-for-places e = let z : ◌≡◌ {A = ℕ} 24 8 = sym cube-places ∙ e in omega arith

  -- three places for each of N
  pub counts-n-for-rows : (left cube sevens).places ≡ 6 → ⊥
  counts-n-for-rows e = let z : ◌≡◌ {A = ℕ} 24 6 = sym cube-places ∙ e in omega arith

  refused : answered (bytes W.greatest_size) sevens ≡ 0 → ⊥
  refused e = W.looks-at-the-size checker checker-keeps (sym (laid (bytes W.greatest_size)).number_so ∙ e)

  -- a refused file tells the places of its size
  pub tells-places-of-a-refused-file : ((left (bytes W.greatest_size) sevens).places ≡ 0 → ⊥) → ⊥
  tells-places-of-a-refused-file other = other (check-refused (keeps (bytes W.greatest_size) sevens) refused).1

  -- a refusal leaves the places that stood there: here 77
  pub keeps-the-old-places : ((file : List ℕ) (lent : CheckLent) → (answered file lent ≡ 0 → ⊥) → (left file lent).places ≡ lent.places) → ⊥
  keeps-the-old-places same =
      let file : List ℕ = bytes W.greatest_size in
      let z : ◌≡◌ {A = ℕ} 77 0 = sym (same file sevens refused) ∙ (check-refused (keeps file sevens) refused).1 in
      omega arith
