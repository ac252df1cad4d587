-- Document 01, "Interpolation": on which side of its domain a code lies.
use Rattle.std.specs.Prelude.{ℕ, ◌*◌, cond, ℤ, pos, ◌-ℤ◌, ◌*ℤ◌}
use Rattle.std.specs.Int.Signed.{lt_z}
use Rattle.rules.specs.Units.{bound_one}
use Rattle.rules.specs.Looking.Interpolation.{den}
use Rattle.rules.specs.declared.Domain.{Domain}
use Rattle.placing.specs.declared.side.Side.{Side}
use Rattle.placing.specs.declared.side.Side.TheVariants.{Below, Within, Above}

-- of one colour with code c, by its own domain; m is M
module _ (m : ℕ) (dom : Domain) (c : ℕ) where
  -- 1000·c − lo·M, before `offset` moves it into 0 to D
  abbrev pub unmoved : ℤ
  unmoved = pos (bound_one * c) -ℤ (pos m *ℤ dom.lower.0)

  -- below 0 it is moved up to 0, above D it is moved down to D, and else it is left as it is (`side-says`)
  unfoldable pub side_of : Side
  side_of = cond (lt_z unmoved (pos 0)) Below (cond (lt_z (pos (den m dom)) unmoved) Above Within)
