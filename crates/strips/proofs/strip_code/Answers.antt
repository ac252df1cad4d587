use Prim.Native.Nat.{ℕ, ◌*◌, ◌/◌, ◌≤◌, ◌<◌}
use mathlib.Core.Path.{◌≡◌, sym, ap, subst, ◌∙◌}
use mathlib.Core.Bool.{true, false}
use mathlib.Core.List.{List}
use native.Mathlib.Nat as NatL
use native.Mathlib.Omega.{arith}
use lib.IntN.{ℤ, pos, nat_abs, ◌+ℤ◌, ◌*ℤ◌}
use lib.ListN.{length, get_or}
use lib.Signed.{lt_z}
use mir.Syntax.{w64}
use mir.Val.{SFits, to_z, of_z}
use Rattle.whole.specs.Integers.{up}
use Rattle.whole.specs.Nearest.{code}
use Rattle.whole.proofs.Held.{Held, abs-fits, of, cast, add, add_ok, negative, not_negative, as-u64}
use Rattle.whole.proofs.NearestLaws.{code-top}
use Rattle.rules.specs.Looking.{line_code}
use Rattle.lanes.specs.Lanes.{spot_of, index_by}
use Rattle.strips.specs.Strips.{slope_of, base_of, StripAt}
use Rattle.strips.specs.declared.Strip.{Strip}
use Rattle.strips.proofs.Pieces as P
use Rattle.strips.proofs.strip_code.Goals as goal

-- The lane leads to a cell of the strip, and the piece of the cell gives the sum over D and half a unit, held in 64 bits. Below 0 the code is 0, above the top it
-- is M, and in between the reciprocal gives it.
-- ---- the sum of a code, and its own code
module _ {strip : Strip} {table slopes bases : List ℤ} {c : ℕ} (s : StripAt strip table slopes bases c) where
  abbrev i : ℕ
  i = index_by strip.lane c

  below : i < strip.cells
  below = P.in_cell s.stripped c s.inside

  code-most : c ≤ 65535
  code-most = omega (arith, s.inside, s.stripped.lined.planned.most)

  product_most : c * strip.lane.times ≤ 281_470_681_743_360
  product_most = NatL.mul-le-mul {n₂ = 65535} {m₂ = 4_294_967_296} code-most (omega (arith, s.stripped.runs.slow))

  spot-most : spot_of strip.lane c ≤ 285_868_728_254_464
  spot-most = omega (arith, product_most, s.stripped.runs.near, s.stripped.few)

  in-slopes : i < length slopes
  in-slopes = omega (arith, below, s.laid.slopes_long)

  in-bases : i < length bases
  in-bases = omega (arith, below, s.laid.bases_long)

  slope : Held (of_z w64 (get_or slopes i (pos 0))) (slope_of strip table i) 2_000_000_000_000_000_000
  slope =
      rw (s.laid.slopes_are i below) (of (slope_of strip table i) 2_000_000_000_000_000_000 (P.slope-most s.stripped i below) (omega arith))

  base : Held (of_z w64 (get_or bases i (pos 0))) (base_of strip table i) 5_305_843_009_213_693_952
  base = rw (s.laid.bases_are i below) (of (base_of strip table i) 5_305_843_009_213_693_952 (P.base-most s.stripped i below) (omega arith))

  coded : Held c (pos c) 65535
  coded = cast c 65535 code-most (omega arith)

  abbrev grownBits : ℤ
  grownBits = to_z w64 (of_z w64 (get_or slopes i (pos 0))) *ℤ to_z w64 c

  grown-ok : SFits w64 grownBits
  grown-ok =
      rw (slope.reads, coded.reads)
      (abs-fits (slope_of strip table i *ℤ pos c) (omega (arith, P.grown-most s.stripped i below c s.inside)))

  grown : Held (of_z w64 grownBits) (slope_of strip table i *ℤ pos c) 2_000_000_000_000_000_000
  grown =
      rw (slope.reads, coded.reads)
      (of (slope_of strip table i *ℤ pos c) 2_000_000_000_000_000_000 (P.grown-most s.stripped i below c s.inside) (omega arith))

  sum-ok : SFits w64 (to_z w64 (of_z w64 grownBits) +ℤ to_z w64 (of_z w64 (get_or bases i (pos 0))))
  sum-ok = add_ok grown base (omega arith)

  abbrev sumBits : ℕ
  sumBits = of_z w64 (to_z w64 (of_z w64 grownBits) +ℤ to_z w64 (of_z w64 (get_or bases i (pos 0))))

  abbrev sum_at : ℤ
  sum_at = P.sum_in s.stripped c s.inside

  sum : Held sumBits (sum_at +ℤ pos strip.half) 7_305_843_009_213_693_952
  sum = subst (λ z. Held sumBits z 7_305_843_009_213_693_952) (P.piece-sum s.stripped c s.inside) (add grown base (omega arith))

  -- the code that is asked for
  abbrev own : ℕ
  own = line_code s.stripped.lined.planned.d table s.stripped.lined.planned.depths strip.colour c

  own_is : own ≡ code (pos strip.most *ℤ sum_at) strip.axis.full strip.most
  own_is = P.strip-value s.stripped c s.inside

  own-most : own ≤ 65535
  own-most =
      omega (
        arith,
        own_is,
        code-top (pos strip.most *ℤ sum_at) strip.axis.full strip.most,
        s.stripped.most_is,
        s.stripped.lined.planned.corrected_most,
      )

  below-0 : lt_z (to_z w64 sumBits) (pos 0) ≡ true → 0 ≡ own
  below-0 e = P.moved-below s.stripped sum_at (negative sum e) ∙ sym own_is

  -- as a u64
  module _ (e : lt_z (to_z w64 sumBits) (pos 0) ≡ false) where
    above-is : nat_abs (to_z w64 sumBits) ≡ up (sum_at +ℤ pos strip.half)
    above-is = as-u64 sum (not_negative sum e)

    above-top : strip.top < nat_abs (to_z w64 sumBits) → strip.most ≡ own
    above-top h = P.moved-above s.stripped sum_at (subst (λ n. strip.top < n) above-is h) ∙ sym own_is

    inside-top : nat_abs (to_z w64 sumBits) ≤ strip.top → nat_abs (to_z w64 sumBits) / strip.unit.by ≡ own
    inside-top h =
        ap (λ n. n / strip.unit.by) above-is
        ∙ P.moved_inside s.stripped sum_at (not_negative sum e) (subst (λ n. n ≤ strip.top) above-is h)
        ∙ sym own_is

pub bounds-slopes-i : goal.bounds-slopes-i
bounds-slopes-i c = in-slopes c.requires.1

-- ---- the sum
pub overflow_mul-n : goal.overflow_mul-n
overflow_mul-n c = grown-ok c.requires.1

pub bounds-bases-i : goal.bounds-bases-i
bounds-bases-i c = in-bases c.requires.1

pub overflow_add-n : goal.overflow_add-n
overflow_add-n c = sum-ok c.requires.1

-- ---- its code
pub returns-then-n-lt0 : goal.returns-then-n-lt0
returns-then-n-lt0 c table s = below-0 s c.if-n-lt0.true

pub returns-then-above-strip : goal.returns-then-above-strip
returns-then-above-strip c table s = above-top s c.if-n-lt0.false c.if-above-strip.true

pub quotient-requires : goal.quotient-requires
quotient-requires c = P.divides-to-top c.requires.1.stripped _ c.if-above-strip.false

divided : (c : goal.After-quotient) (table : List ℤ) (s : StripAt c.args.strip table c.args.slopes.now c.args.bases.now c.args.code)
    → c.quotient.result ≡ own s
divided c table s = c.quotient.ensures ∙ inside-top s c.if-n-lt0.false c.if-above-strip.false

pub overflow_cast-result : goal.overflow_cast-result
overflow_cast-result c = record { fits = omega (arith, divided c c.requires.0 c.requires.1, own-most c.requires.1) }

pub returns : goal.returns
returns c = divided c
