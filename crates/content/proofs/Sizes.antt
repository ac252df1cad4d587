-- N kept at one past its greatest is judged as N is: out of range where it is, and itself where it is not.
use Prim.Native.Nat.{ℕ, ◌≤◌}
use mathlib.Core.Path.{◌≡◌, sym, ap, ◌∙◌}
use mathlib.Core.Bool.{true, false, and-false}
use mathlib.Core.List.{List, [], ◌∷◌}
use native.Mathlib.Omega.{arith}
use native.Mathlib.Decide.{dec_le}
use borrow.Author.Tests.{leb-true, lt-leb}
use lib.Dec.{leb}
use Rattle.rules.specs.Units.{greatest_n, in_range}
use Rattle.rules.specs.Reading.Numerals.{digits, spell}
use Rattle.rules.specs.Reading.Contents.{size_of}
use Rattle.rules.specs.declared.Item.TheVariants.{OfSize}
use Rattle.rules.specs.declared.Kind.{Kind}
use Rattle.rules.specs.declared.Kind.TheVariants.{OneD}
use Rattle.rules.specs.declared.Refusal.TheVariants.{ParametersWrong, SizeOutOfRange}
use Rattle.rules.proofs.Sound.{greatest-most}
use Rattle.rules.proofs.Tests.{and_both}
use Rattle.numbers.specs.Cuts.{kept}
use Rattle.std.specs.Prelude.{Err, Ok}

module _ (k : Kind) (w : List ℕ) where
  pub no-digits : digits w ≡ false → size_of k (w ∷ []) ≡ Err ParametersWrong
  unfolding size_of
  no-digits d = rw d

  module _ (d : digits w ≡ true) (n : ℕ) (e : n ≡ kept (greatest_n OneD) (spell 0 w)) where
    -- N is in range as what is kept of it is
    same-range : in_range k n ≡ in_range k (spell 0 w)
    same-range = by (dec_le (spell 0 w) (greatest_n OneD))
      where
        by : Dec (spell 0 w ≤ greatest_n OneD) → in_range k n ≡ in_range k (spell 0 w)
        by (yes h) = let s : n ≡ spell 0 w = omega arith in ap (in_range k) s
        by (no h) =
            rw (lt-leb n (greatest_n k) (omega (arith, greatest-most k)), lt-leb (spell 0 w) (greatest_n k) (omega (arith, greatest-most k)), and-false, and-false)

    pub out_of_range : in_range k n ≡ false → size_of k (w ∷ []) ≡ Err SizeOutOfRange
    unfolding size_of
    out_of_range h = rw (d, sym same-range ∙ h)

    pub in-range : in_range k n ≡ true → size_of k (w ∷ []) ≡ Ok (OfSize (record { kind = k; n = n }))
    unfolding size_of
    in-range h =
        let most = leb-true n (greatest_n k) (and_both (leb 2 n) (leb n (greatest_n k)) h).1 in
        let s : spell 0 w ≡ n = omega (arith, greatest-most k) in
        rw (d, s, h)
