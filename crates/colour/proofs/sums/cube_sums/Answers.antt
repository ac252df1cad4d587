use mathlib.Core.List.{[], ◌∷◌}
use native.Mathlib.Omega.{arith}
use lib.IntN.{pos}
use Rattle.rules.specs.declared.Colour.{Colour}
use Rattle.rules.specs.declared.Colour.TheVariants.{Red}
use Rattle.colour.specs.Adding.{sum_in, Totalled}
use Rattle.colour.proofs.Totals.{each-colour, nothing, one_more, room}
use Rattle.colour.proofs.sums.cube_sums.Goals as goal

-- The last row first, then each before it in front.
-- ---- the sums so far, for each colour
in-0 : (c : goal.After-fourth-1) (k : Colour) → Totalled c.args.table.now k [] (sum_in (record { red = record { 0 = pos 0 }; green = record { 0 = pos 0 }; blue = record { 0 = pos 0 } }) k)
in-0 c = each-colour _ nothing nothing nothing

in-1 : (c : goal.After-add_row-last) (k : Colour) → let s = c.args in Totalled s.table.now k (s.shares.fourth ∷ []) (sum_in c.add_row-last.result k)
in-1 c k = one_more (in-0 c.before k) (c.add_row-last.ensures k)

in-2 : (c : goal.After-add_row-last_two) (k : Colour) → let s = c.args in Totalled s.table.now k (s.shares.third ∷ s.shares.fourth ∷ []) (sum_in c.add_row-last_two.result k)
in-2 c k = one_more (in-1 c.before k) (c.add_row-last_two.ensures k)

in-3 : (c : goal.After-add_row-last_three) (k : Colour) → let s = c.args in Totalled s.table.now k (s.shares.second ∷ s.shares.third ∷ s.shares.fourth ∷ []) (sum_in c.add_row-last_three.result k)
in-3 c k = one_more (in-2 c.before k) (c.add_row-last_three.ensures k)

pub add_row-last-requires : goal.add_row-last-requires
add_row-last-requires c = let fit = c.requires Red in record { room = λ k. room (in-0 c k) (omega (arith, fit.weights)); row_at = fit.rows.1.1.1.0 }

pub add_row-last_two-requires : goal.add_row-last_two-requires
add_row-last_two-requires c = let fit = c.requires Red in record { room = λ k. room (in-1 c k) (omega (arith, fit.weights)); row_at = fit.rows.1.1.0 }

pub add_row-last_three-requires : goal.add_row-last_three-requires
add_row-last_three-requires c = let fit = c.requires Red in record { room = λ k. room (in-2 c k) (omega (arith, fit.weights)); row_at = fit.rows.1.0 }

pub add_row-requires : goal.add_row-requires
add_row-requires c = let fit = c.requires Red in record { room = λ k. room (in-3 c k) (omega (arith, fit.weights)); row_at = fit.rows.0 }
