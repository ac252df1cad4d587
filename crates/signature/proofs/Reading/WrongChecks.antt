-- The promise of check refutes wrong programs. What such a program does is said of any program at all; that it keeps the promise is then absurd, at an input that
-- the theorem holds.
use Prim.Native.Nat.{ℕ, ◌-◌}
use Prim.Native.String.{String}
use mathlib.Core.Path.{◌≡◌, sym, ap, ◌∙◌}
use mathlib.Core.List.{List}
use native.Mathlib.Omega.{arith}
use Rattle.rules.specs.Units.{place_limit}
use Rattle.rules.specs.Reading.Lines.{bytes}
use Rattle.rules.specs.Reading.{check, read}
use Rattle.rules.specs.Answers.{read_line, read_number}
use Rattle.rules.specs.Promises.{Checks}
use Rattle.signature.specs.Cases.{sample_a3}
use Rattle.signature.proofs.Cases.{opened}
use Rattle.rules.specs.Results.{Read}

abbrev pub Checker : Type 0
Checker = List ℕ → Read

abbrev pub ChecksAll : Checker → Type 0
ChecksAll f = (file : List ℕ) → Checks file (f file)

-- the greatest table's size, and not one row
abbrev pub greatest_size : String
greatest_size = "LUT_3D_SIZE 256\n"

module _ (f : Checker) (keeps : ChecksAll f) where
  pub refuses-all-files : ((file : List ℕ) → read_number (f file) ≡ 0 → ⊥) → ⊥
  unfolding opened check
  refuses-all-files never = never (bytes sample_a3) (keeps (bytes sample_a3)).number

  -- judges as if an empty table were lent: A.3 would be 13
  pub lends_nothing : ((file : List ℕ) → f file ≡ read file 0) → ⊥
  unfolding opened check
  lends_nothing same = let z : ◌≡◌ {A = ℕ} 0 13 = sym (keeps (bytes sample_a3)).number ∙ ap read_number (same (bytes sample_a3)) in omega arith

  -- has room for all tables but the greatest: that one's size would be 13, and it is taken, so that the end with too few rows decides
  pub lends-one-place-less : ((file : List ℕ) → f file ≡ read file (place_limit - 1)) → ⊥
  unfolding opened check
  lends-one-place-less same =
      let z : ◌≡◌ {A = ℕ} 18 13 = sym (keeps (bytes greatest_size)).number ∙ ap read_number (same (bytes greatest_size)) in omega arith

  -- looks no further than the size: too few rows would be accepted
  pub looks-at-the-size : read_number (f (bytes greatest_size)) ≡ 0 → ⊥
  unfolding opened check
  looks-at-the-size e = let z : ◌≡◌ {A = ℕ} 18 0 = sym (keeps (bytes greatest_size)).number ∙ e in omega arith

  -- a line of its own invention: this file is refused on line 2
  pub invents-lines : (read_line (f (bytes "\n # a")) ≡ 2 → ⊥) → ⊥
  unfolding opened check
  invents-lines other = other (keeps (bytes "\n # a")).line
