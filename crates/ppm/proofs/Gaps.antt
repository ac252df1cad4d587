-- The gap before a number, from the place that a scan has come to: one byte more, a byte that ends it, and the end.
use Prim.Native.Nat.{ℕ, ◌+◌, ◌≤◌, ◌<◌}
use mathlib.Core.Path.{◌≡◌}
use mathlib.Core.Bool.{Bool, true, false}
use mathlib.Core.List.{List}
use native.Mathlib.Numerals.{add-one}
use native.Mathlib.Omega.{arith}
use lib.ListN.{length, get_or, drop_of_length-le}
use lib.Seq.{drop-cons}
use Rattle.ppm.specs.Header.{goes_on, comment_after, gap_end, gap_length}

module _ (comment : Bool) (s : List ℕ) (i : ℕ) where
  pub gap_more : i < length s → goes_on comment (get_or s i 0) ≡ true → gap_end comment s i ≡ gap_end (comment_after comment (get_or s i 0)) s (i + 1)
  unfolding gap_length
  gap_more h e = rw (drop-cons s i 0, e, add-one) (omega arith)

  pub gap-stop : i < length s → goes_on comment (get_or s i 0) ≡ false → gap_end comment s i ≡ i
  unfolding gap_length
  gap-stop h e = rw (drop-cons s i 0, e) (omega arith)

  pub gap-over : length s ≤ i → gap_end comment s i ≡ i
  unfolding gap_length
  gap-over h = rw (drop_of_length-le s h) (omega arith)
