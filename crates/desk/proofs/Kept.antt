-- A number kept at one past the limit is judged as the number is: too great where it is, and itself where it is not.
use Prim.Native.Nat.{ℕ, ◌≤◌, ◌<◌}
use mathlib.Core.Path.{◌≡◌, refl}
use mathlib.Core.Bool.{Bool, true, false, cond}
use mathlib.Core.List.{List}
use native.Mathlib.Omega.{arith}
use borrow.Author.Tests.{le-leb, lt-leb, leb-true}
use lib.Dec.{leb}
use Rattle.rules.specs.Reading.Numerals.{digits, spell}
use Rattle.numbers.specs.Cuts.{kept}
use Rattle.desk.specs.Arguments.{argument_of, UpTo}
use Rattle.std.specs.Prelude.{Ok, Err}
use Rattle.desk.specs.declared.arguments.Unfit.TheVariants.{TooGreat, Unclear}

module _ (most : ℕ) (text : List ℕ) where
  pub no-digits : digits text ≡ false → argument_of most text ≡ Err Unclear
  unfolding argument_of
  no-digits d = rw d

  module _ (d : digits text ≡ true) (n : ℕ) (e : n ≡ kept most (spell 0 text)) where
    pub too-great : most < n → argument_of most text ≡ Err TooGreat
    unfolding argument_of
    too-great h = rw (d, lt-leb (spell 0 text) most (omega arith))

    pub at_most : n ≤ most → argument_of most text ≡ Ok n
    unfolding argument_of
    at_most h =
        let s : spell 0 text ≡ n = omega arith in
        rw (d, s, le-leb n most h)

  -- what an argument says is within the limit
  pub up_to : UpTo most (argument_of most text)
  unfolding argument_of
  up_to = by (digits text) (leb (spell 0 text) most) refl
    where
      by : (d t : Bool) → leb (spell 0 text) most ≡ t → UpTo most (cond d (cond t (Ok (spell 0 text)) (Err TooGreat)) (Err Unclear))
      by true true e = leb-true _ _ e
      by true false e = tt
      by false t e = tt
