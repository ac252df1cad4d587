-- Rows added one after another: from the sum of the shares that are in, to that with one share more in front; and the part of the table that a row starts.
use Prim.Native.Nat.{ℕ, ◌+◌, ◌-◌, ◌*◌, ◌≤◌}
use mathlib.Core.Path.{◌≡◌, refl, ap, ◌∙◌}
use mathlib.Core.List.{List, [], ◌∷◌}
use native.Mathlib.Nat as NatL
use native.Mathlib.Omega.{arith}
use lib.IntN.{ℤ, pos, nat_abs, ◌+ℤ◌, ◌*ℤ◌}
use lib.ListN.{length, take, drop, get_or, length-take, length-drop}
use lib.Seq.{get_or-take, get_or-drop}
use Rattle.rules.specs.Units.{colour_place, sample_at}
use Rattle.rules.specs.declared.Colour.{Colour}
use Rattle.rules.specs.declared.Colour.TheVariants.{Red, Green, Blue}
use Rattle.rules.specs.declared.Share.{Share}
use Rattle.rules.proofs.Colours.{place-below}
use Rattle.colour.specs.Limits.{den_limit}
use Rattle.colour.specs.Adding.{RowAt, Starts, Room, Added, carried, Totalled}

pub each-colour : (P : Colour → Type 0) → P Red → P Green → P Blue → (c : Colour) → P c
each-colour P r g b Red = r
each-colour P r g b Green = g
each-colour P r g b Blue = b

-- ---- one share after another

module _ {table : List ℤ} {c : Colour} where
  pub nothing : Totalled table c [] (pos 0)
  nothing = record { is = refl; within = omega arith }

  pub one_more : {s : Share} {ss : List Share} {before after : ℤ} → Totalled table c ss before → Added (sample_at table s.row c) s.weight before after
      → Totalled table c (s ∷ ss) after
  one_more {s} t a =
      record {
        is = a.is ∙ ap (λ z. s.weight *ℤ sample_at table s.row c +ℤ z) t.is;
        within = omega (arith, a.within, t.within);
      }

  pub room : {ss : List Share} {before weight : ℤ} → Totalled table c ss before → nat_abs weight + carried ss ≤ den_limit → Room before weight
  room t h = record { room = omega (arith, t.within) }

-- ---- the part of the table that starts at a row

pub first-row : (xs : List ℤ) (c : Colour) → sample_at xs 0 c ≡ get_or xs (colour_place c) (pos 0)
first-row xs c = ap (λ k. get_or xs k (pos 0)) (NatL.zero-add (colour_place c))

module _ (table : List ℤ) (row : ℕ) (r : RowAt table (3 * row)) where
  abbrev part : List ℤ
  part = take (length table - 3 * row) (drop (3 * row) table)

  part-sample : (c : Colour) → sample_at part 0 c ≡ sample_at table row c
  part-sample c =
      first-row part c
      ∙ get_or-take (length table - 3 * row) (drop (3 * row) table) (colour_place c) (pos 0) (omega (arith, place-below c, r.inside))
      ∙ get_or-drop (3 * row) table (colour_place c) (pos 0)

  pub part-starts : Starts table row part
  part-starts =
      record {
        row_at = record { inside = simp (length-take, length-drop) (omega (arith, r.inside)); small = λ c. rw (part-sample c) (r.small c) };
        number = part-sample;
      }
