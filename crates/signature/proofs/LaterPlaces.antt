-- What stands in a lent table past 3·rows plays no part in 24, nor in the exact value of rows that are below the count of rows.
use Prim.Native.Nat.{ℕ, ◌+◌, ◌*◌, ◌≤◌, ◌<◌}
use mathlib.Core.Path.{◌≡◌, refl, sym, ap, ap₂, ◌∙◌}
use mathlib.Core.List.{List, [], ◌∷◌}
use native.Mathlib.Decide.{dec_le}
use native.Mathlib.Omega.{arith}
use borrow.Author.Tests.{le-leb, lt-leb}
use lib.IntN.{ℤ, pos, ◌+ℤ◌, ◌*ℤ◌}
use lib.ListN.{length, take, get_or, length-take}
use lib.Seq.{get_or-take}
use Rattle.rules.specs.Units.{colour_place, sample_at}
use Rattle.rules.specs.Descriptions.{could_be_read, roomy, rows}
use Rattle.rules.specs.Looking.Interpolation.{total}
use Rattle.rules.specs.Demands.{Each}
use Rattle.rules.specs.declared.Colour.{Colour}
use Rattle.rules.specs.declared.Description.{Description}
use Rattle.rules.specs.declared.Share.{Share}
use Rattle.rules.proofs.Colours.{place-below}

-- two tables with the same 3·rows first places, whatever stands after them
module _ (table other : List ℤ) where
  pub later-24 : (d : Description) → take (3 * rows d) table ≡ take (3 * rows d) other → could_be_read d table ≡ could_be_read d other
  unfolding could_be_read roomy
  later-24 d same = rw (by (dec_le (3 * rows d) (length table)), same)
    where
      by : Dec (3 * rows d ≤ length table) → roomy (length table) d ≡ roomy (length other) d
      by (yes long) =
          let also : 3 * rows d ≤ length other = omega (arith, long, ap length same, length-take (3 * rows d) table, length-take (3 * rows d) other) in
          le-leb _ _ long ∙ sym (le-leb _ _ also)
      by (no short) =
          let also : length other < 3 * rows d = omega (arith, short, ap length same, length-take (3 * rows d) table, length-take (3 * rows d) other) in
          lt-leb (3 * rows d) (length table) (omega arith) ∙ sym (lt-leb (3 * rows d) (length other) also)

  module _ (count : ℕ) (same : take (3 * count) table ≡ take (3 * count) other) (c : Colour) where
    later-sample : (row : ℕ) → row < count → sample_at table row c ≡ sample_at other row c
    later-sample row h =
        let place = 3 * row + colour_place c in
        let there : place < 3 * count = omega (arith, h, place-below c) in
        sym (get_or-take (3 * count) table place (pos 0) there) ∙ ap (λ l. get_or l place (pos 0)) same ∙ get_or-take (3 * count) other place (pos 0) there

    pub later-total : (ss : List Share) → Each (λ s. s.row < count) ss → total table c ss ≡ total other c ss
    later-total [] h = refl
    later-total (s ∷ ss) h = ap₂ (λ x z. s.weight *ℤ x +ℤ z) (later-sample s.row h.0) (later-total ss h.1)
