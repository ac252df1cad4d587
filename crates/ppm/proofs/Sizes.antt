-- A header that stands keeps the limits, since each of its numbers does.
use Prim.Native.Nat.{ℕ, ◌+◌, ◌-◌, ◌≤◌}
use mathlib.Core.Path.{◌≡◌, refl}
use mathlib.Core.Bool.{Bool, true, false, cond}
use mathlib.Core.List.{List}
use borrow.Author.Tests.{leb-true}
use lib.Dec.{eqb, leb, ltb}
use lib.ListN.{length, get_or, take, drop}
use Rattle.std.specs.Prelude.{Result, Ok, Err}
use Rattle.rules.specs.Reading.Numerals.{spell}
use Rattle.ppm.specs.Header.{Sized, most_size, whitespace, counted, gap_end, field_between, field_at, with_maxval, after_height, with_height, after_width, with_width, starts_p6, header_of}
use Rattle.ppm.specs.declared.header.Count.{Count}
use Rattle.ppm.specs.declared.header.Fault.{Fault}
use Rattle.ppm.specs.declared.header.Fault.TheVariants.{Beyond}
use Rattle.ppm.specs.declared.header.Part.{Part}

-- a number that is found is within its limit
abbrev UpTo : ℕ → Result Count Fault → Type 0
UpTo limit (Ok number) = number.value ≤ limit
UpTo limit (Err fault) = Unit {0}

-- where one of two is chosen, what holds of both holds
pub either : {A : Type 0} (P : A → Type 0) (t : Bool) {x y : A} → P x → P y → P (cond t x y)
either P true p q = p
either P false p q = q

kept-up-to : (value next limit : ℕ) (fault : Fault) (t : Bool) → leb value limit ≡ t → UpTo limit (cond t (Ok (counted value next)) (Err fault))
kept-up-to value next limit fault true e = leb-true value limit e
kept-up-to value next limit fault false e = tt

module _ (part : Part) (limit : ℕ) (s : List ℕ) where
  between-up-to : (start end : ℕ) → UpTo limit (field_between part limit s start end)
  unfolding field_between
  between-up-to start end =
      let value = spell 0 (take (end - start) (drop start s)) in
      either (UpTo limit) (eqb end (length s)) tt
      (either (UpTo limit) (eqb end start) tt
      (either (UpTo limit) (whitespace (get_or s end 0)) (kept-up-to value (end + 1) limit (Beyond part) (leb value limit) refl) tt))

  field-up-to : (p : ℕ) → UpTo limit (field_at part limit s p)
  unfolding field_at
  field-up-to p = between-up-to (gap_end false s p) _

module _ (s : List ℕ) where
  maxval-sized : (width height : ℕ) → width ≤ most_size → height ≤ most_size → (f : Result Count Fault) → Sized (with_maxval width height f)
  unfolding with_maxval
  maxval-sized width height w h (Err fault) = tt
  maxval-sized width height w h (Ok maxval) = (w, h)

  height-sized : (width : ℕ) → width ≤ most_size → (f : Result Count Fault) → UpTo most_size f → Sized (with_height s width f)
  unfolding with_height after_height
  height-sized width w (Err fault) h = tt
  height-sized width w (Ok height) h = maxval-sized width height.value w h _

  width-sized : (f : Result Count Fault) → UpTo most_size f → Sized (with_width s f)
  unfolding with_width after_width
  width-sized (Err fault) h = tt
  width-sized (Ok width) h = height-sized width.value h _ (field-up-to _ most_size s _)

  pub header-sized : Sized (header_of s)
  unfolding header_of
  header-sized = either Sized (ltb (length s) 4) tt (either Sized (starts_p6 s) (width-sized _ (field-up-to _ most_size s 3)) tt)
