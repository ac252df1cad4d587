use Prim.Native.Nat.{ℕ, ◌+◌, ◌*◌, ◌≤◌, ◌<◌}
use mathlib.Core.Path.{◌≡◌, sym, ap, subst, ◌∙◌}
use mathlib.Core.List.{List}
use native.Mathlib.Omega.{arith}
use lib.IntN.{ℤ, pos, nat_abs, ◌+ℤ◌, ◌-ℤ◌, ◌*ℤ◌}
use lib.ListN.{length, get_or}
use mir.Syntax.{w64}
use mir.Val.{to_z, of_z}
use Rattle.whole.proofs.Held.{Held, of, cast, add, add_ok, sub, sub-ok, mul, mul_ok}
use Rattle.rules.specs.Units.{sample_limit, colour_place, sample_at}
use Rattle.strips.specs.Strips.{Stripped, slope_parts, base_parts, step_of}
use Rattle.strips.specs.declared.Strip.{Strip}
use Rattle.strips.proofs.Pieces.{place_inside, sample-most, den-most, codes-most, slope-parts-most, cell-most, half-small, start-most}
use Rattle.strips.proofs.piece_at.Goals as goal
use Rattle.strips.proofs.piece_at.Goals.{After-colour_place}

-- Each number on the way is held in 64 bits: a sample is at most 10^10 and a step twice as much, D and the parts of all codes are at most 10^8, and half the unit
-- is below 2^61.
-- ---- sum, difference and product of 64 bits
abbrev plus : ℕ → ℕ → ℕ
plus x y = of_z w64 (to_z w64 x +ℤ to_z w64 y)

abbrev minus : ℕ → ℕ → ℕ
minus x y = of_z w64 (to_z w64 x -ℤ to_z w64 y)

abbrev times : ℕ → ℕ → ℕ
times x y = of_z w64 (to_z w64 x *ℤ to_z w64 y)

-- ---- the numbers of a cell
-- a cell of a strip, and where its colour stands in a row
record Cell (strip : Strip) (table : List ℤ) (i place : ℕ) : Type 0 where
  stripped : Stripped strip table
  below : i < strip.cells
  place_is : place ≡ colour_place strip.colour

module _ {strip : Strip} {table : List ℤ} {i place : ℕ} (q : Cell strip table i place) where
  abbrev den : ℕ
  den = strip.axis.den

  lower-inside : 3 * i + place < length table
  lower-inside = omega (arith, q.place_is, place_inside q.stripped i (omega (arith, q.below)))

  upper-inside : 3 * i + place + 3 < length table
  upper-inside = omega (arith, q.place_is, place_inside q.stripped (i + 1) (omega (arith, q.below)))

  sample-held : (at j : ℕ) → at ≡ 3 * j + place → j ≤ strip.cells → Held (of_z w64 (get_or table at (pos 0))) (sample_at table j strip.colour) sample_limit
  sample-held at j e l =
      subst (λ k. Held (of_z w64 (get_or table k (pos 0))) (sample_at table j strip.colour) sample_limit) (sym (e ∙ ap (λ x. 3 * j + x) q.place_is))
      (of (sample_at table j strip.colour) sample_limit (sample-most q.stripped j l) (omega arith))

  abbrev lowerBits : ℕ
  lowerBits = of_z w64 (get_or table (3 * i + place) (pos 0))

  abbrev upperBits : ℕ
  upperBits = of_z w64 (get_or table (3 * i + place + 3) (pos 0))

  lower : Held lowerBits (sample_at table i strip.colour) sample_limit
  lower = sample-held (3 * i + place) i (omega arith) (omega (arith, q.below))

  upper : Held upperBits (sample_at table (i + 1) strip.colour) sample_limit
  upper = sample-held (3 * i + place + 3) (i + 1) (omega arith) (omega (arith, q.below))

  step : Held (minus upperBits lowerBits) (step_of strip table i) 20_000_000_000
  step = sub upper lower (omega arith)

  each : Held (slope_parts strip) (pos (slope_parts strip)) 100_000_000
  each = cast (slope_parts strip) 100_000_000 (slope-parts-most q.stripped) (omega arith)

  wide : Held den (pos den) 100_000_000
  wide = cast den 100_000_000 (den-most q.stripped) (omega arith)

  first : Held (times den lowerBits) (pos den *ℤ sample_at table i strip.colour) 1_000_000_000_000_000_000
  first = mul wide lower (omega arith)

  half : Held strip.half (pos strip.half) 2_305_843_009_213_693_951
  half = cast strip.half 2_305_843_009_213_693_951 (omega (arith, half-small q.stripped)) (omega arith)

  before : Held (i * den) (pos (i * den)) 100_000_000
  before = cast (i * den) 100_000_000 (cell-most q.stripped i q.below) (omega arith)

  -- by how far the lower bound is below 0
  module _ {size : ℕ} (e : size ≡ nat_abs strip.axis.low.0) where
    from : Held (size * strip.cells) (pos (base_parts strip)) 100_000_000
    from =
        subst (λ x. Held (x * strip.cells) (pos (base_parts strip)) 100_000_000) (sym e)
        (cast (base_parts strip) 100_000_000 (omega (arith, codes-most q.stripped)) (omega arith))

    start : Held (minus (size * strip.cells) (i * den)) (pos (base_parts strip) -ℤ pos (i * den)) 100_000_000
    start = record { reads = (sub from before (omega arith)).reads; within = start-most q.stripped i q.below }

    from-most : size * strip.cells ≤ 100_000_000
    from-most = omega (arith, ap (λ x. x * strip.cells) e, codes-most q.stripped)

    further : Held (times (minus (size * strip.cells) (i * den)) (minus upperBits lowerBits)) ((pos (base_parts strip) -ℤ pos (i * den)) *ℤ step_of strip table i) 2_000_000_000_000_000_000
    further = mul start step (omega arith)

    both : Held (plus (times den lowerBits) (times (minus (size * strip.cells) (i * den)) (minus upperBits lowerBits)))
        (pos den *ℤ sample_at table i strip.colour +ℤ (pos (base_parts strip) -ℤ pos (i * den)) *ℤ step_of strip table i) 3_000_000_000_000_000_000
    both = add first further (omega arith)

-- ---- the two places of the table
cell : (c : After-colour_place) → Cell c.args.strip c.args.table.now c.args.i c.colour_place.result
cell c = record { stripped = c.requires.stripped; below = c.requires.i_lt_cells; place_is = c.colour_place.ensures }

pub bounds-table-at : goal.bounds-table-at
bounds-table-at c = lower-inside (cell c)

pub bounds-table-at-2 : goal.bounds-table-at-2
bounds-table-at-2 c = upper-inside (cell (goal.at.bounds-table-at-2 c).After-colour_place)

-- ---- the step and the slope
pub overflow_sub-step : goal.overflow_sub-step
overflow_sub-step c = let q = cell (goal.at.overflow_sub-step c).After-colour_place in sub-ok (upper q) (lower q) (omega arith)

pub overflow_mul-slope : goal.overflow_mul-slope
overflow_mul-slope c = record { fits = omega (arith, (each (cell (goal.at.overflow_mul-slope c).After-colour_place)).within) }

pub overflow_cast-slope : goal.overflow_cast-slope
overflow_cast-slope c = record { sfits = omega (arith, (each (cell (goal.at.overflow_cast-slope c).After-colour_place)).within) }

pub overflow_mul-slope-2 : goal.overflow_mul-slope-2
overflow_mul-slope-2 c = let q = cell (goal.at.overflow_mul-slope-2 c).After-colour_place in mul_ok (each q) (step q) (omega arith)

-- ---- the base
pub overflow_sub-start : goal.overflow_sub-start
overflow_sub-start c = let q = cell (goal.at.overflow_sub-start c).After-colour_place in sub-ok (from q c.size.ensures) (before q) (omega arith)

pub overflow_mul-base : goal.overflow_mul-base
overflow_mul-base c = let q = cell (goal.at.overflow_mul-base c).After-colour_place in mul_ok (wide q) (lower q) (omega arith)

pub overflow_mul-base-2 : goal.overflow_mul-base-2
overflow_mul-base-2 c = let q = cell (goal.at.overflow_mul-base-2 c).After-colour_place in mul_ok (start q c.size.ensures) (step q) (omega arith)

pub overflow_add-base : goal.overflow_add-base
overflow_add-base c = let q = cell (goal.at.overflow_add-base c).After-colour_place in add_ok (first q) (further q c.size.ensures) (omega arith)

pub overflow_add-base-2 : goal.overflow_add-base-2
overflow_add-base-2 c = let q = cell (goal.at.overflow_add-base-2 c).After-colour_place in add_ok (both q c.size.ensures) (half q) (omega arith)

pub returns : goal.returns
returns c =
    let q = cell (goal.at.returns c).After-colour_place in
    record {
      slope_is = (mul (each q) (step q) (omega arith)).reads;
      base_is = (add (both q c.size.ensures) (half q) (omega arith)).reads;
    }
