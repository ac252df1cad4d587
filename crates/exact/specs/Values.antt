-- The exact value S / E of a colour: in lowest terms, as a code, how the code given was settled, and how far that is from the exact value.
use Rattle.std.specs.Prelude.{ℕ, ◌+◌, ◌*◌, ◌<◌, ◌≡◌, cond, eqb, ltb, ℤ, pos, nat_abs, ◌+ℤ◌, ◌-ℤ◌, ◌*ℤ◌}
use Rattle.std.specs.Int.Signed.{lt_z}
use Rattle.whole.specs.Divisors.{gcd}
use Rattle.exact.specs.declared.codes.InCodes.{InCodes}
use Rattle.exact.specs.declared.distance.Distance.{Distance}
use Rattle.exact.specs.declared.floor.Floor.{Floor}
use Rattle.exact.specs.declared.ratio.Ratio.{Ratio}
use Rattle.exact.specs.declared.settled.Settled.{Settled}
use Rattle.exact.specs.declared.settled.Settled.TheVariants.{Exactly, Nearest, TieUpward, ClippedAtZero, ClippedAtMost}

-- ---- in lowest terms

-- top / bottom is s / e, and no number but 1 divides both
pub record LowestTerms (s : ℤ) (e : ℕ) (r : Ratio) : Type 0 where
  pub some : 0 < r.bottom
  pub same : r.top.0 *ℤ pos e ≡ s *ℤ pos r.bottom
  pub lowest : gcd (nat_abs r.top.0) r.bottom ≡ 1

-- ---- as a code

-- whole·unit + rest: how many units it is
abbrev pub units : InCodes → ℤ
units v = v.whole.0 *ℤ pos v.unit +ℤ pos v.rest

-- whole + rest / unit is m·s / e, rounded down to the whole, and the rest is in lowest terms: where it is 0, the unit is 1
pub record CodeValue (s : ℤ) (e m : ℕ) (v : InCodes) : Type 0 where
  pub below : v.rest < v.unit
  pub same : units v *ℤ pos e ≡ (pos m *ℤ s) *ℤ pos v.unit
  pub lowest : gcd v.rest v.unit ≡ 1

-- ---- how the code given was settled

-- s / e may be below 0 or above 1; else what the code leaves is nothing, half a code, or something else
unfoldable pub settled_as : ℤ → ℕ → ℕ → ℕ → Settled
settled_as s e rest unit =
    cond (lt_z s (pos 0)) ClippedAtZero
    (cond (lt_z (pos e) s) ClippedAtMost (cond (eqb rest 0) Exactly (cond (eqb (2 * rest) unit) TieUpward Nearest)))

-- the code that was given then
unfoldable pub settled_code : ℕ → InCodes → Settled → ℤ
settled_code m v Exactly = v.whole.0
settled_code m v Nearest = cond (ltb (2 * v.rest) v.unit) v.whole.0 (v.whole.0 +ℤ pos 1)
settled_code m v TieUpward = v.whole.0 +ℤ pos 1
settled_code m v ClippedAtZero = pos 0
settled_code m v ClippedAtMost = pos m

-- ---- how far a code is from the exact value

-- whole + rest / unit is that, over the unit of the exact value
pub record Apart (code : ℕ) (v : InCodes) (r : Distance) : Type 0 where
  pub below : r.rest < v.unit
  pub same : r.whole * v.unit + r.rest ≡ nat_abs (pos (code * v.unit) -ℤ units v)

-- ---- for the code alone: division rounded down

-- s = quotient·e + rest, rounded down, also where s is below 0
pub record RoundedDown (s : ℤ) (e : ℕ) (r : Floor) : Type 0 where
  pub below : r.rest < e
  pub same : s ≡ r.quotient.0 *ℤ pos e +ℤ pos r.rest
