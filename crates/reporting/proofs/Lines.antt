-- The first and the last line by their parts: of a 1D and of a 3D table, with a title and without.
use Prim.Native.Nat.{ℕ, ◌+◌, ◌-◌}
use mathlib.Core.Path.{◌≡◌}
use mathlib.Core.Bool.{true, false}
use mathlib.Core.List.{List, [], ◌∷◌, ◌++◌}
use native.Mathlib.Omega.{arith}
use lib.ListN.{take, drop}
use Rattle.rules.specs.Units.{rows_of}
use Rattle.rules.specs.Decimals.{decimal}
use Rattle.rules.specs.Reading.Lines.{bytes}
use Rattle.rules.specs.Fields.{parted}
use Rattle.rules.specs.Reporting.{line_of, cube_line, title_line}
use Rattle.rules.specs.declared.Kind.{Kind}
use Rattle.rules.specs.declared.Kind.TheVariants.{OneD, ThreeD}
use Rattle.rules.specs.declared.Title.{Title}

module _ (k : Kind) (n rows : ℕ) (counted : rows ≡ rows_of k n) where
  pub cube-1d : k ≡ OneD → cube_line k n ≡ bytes "cube\t1D\t" ++ line_of (decimal n ∷ decimal rows ∷ [])
  unfolding cube_line parted bytes
  cube-1d e = rw (counted, e)

  pub cube-3d : k ≡ ThreeD → cube_line k n ≡ bytes "cube\t3D\t" ++ line_of (decimal n ∷ decimal rows ∷ [])
  unfolding cube_line parted bytes
  cube-3d e = rw (counted, e)

-- yes, and the bytes from the title's place up to its end
abbrev pub titled_line : List ℕ → Title → List ℕ
titled_line input t = bytes "title\tyes\t" ++ (take (t.place + t.length - t.place) (drop t.place input) ++ (10 ∷ []))

module _ (input : List ℕ) (t : Title) where
  pub titled : t.there ≡ true → title_line input t ≡ titled_line input t
  unfolding title_line parted bytes
  titled e =
      let n : t.place + t.length - t.place ≡ t.length = omega arith in
      rw (e, n)

  pub untitled : t.there ≡ false → title_line input t ≡ bytes "title\tno\n"
  unfolding title_line parted bytes
  untitled e = rw e
